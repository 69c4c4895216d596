-- What a reader must believe of a list of ranges: InnerLists (written into two lent slices), InnerColumns (read from two columns of a map or a set).
pub mod InnerLists
pub mod InnerColumns
