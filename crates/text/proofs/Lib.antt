-- Laws: of text put into lent bytes.
pub mod Laws
