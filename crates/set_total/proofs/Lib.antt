-- Laws (the sum, place by place, and what the unchecked door answers).
pub mod Laws
