-- What a reader must believe of these functions: what each promises.
pub mod Promises
