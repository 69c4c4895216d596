-- A map that is lent as columns of any length.
use Rattle.outcomes.specs.Stored.{stored}
use Rattle.outcomes.specs.declared.Stored.{Stored}
use Rattle.outcomes.specs.declared.StoredRef.{StoredRef}

-- the map that lent columns are
abbrev pub of_ref : StoredRef → Stored
of_ref m = stored m.count m.starts.now m.ends.now m.values.now
