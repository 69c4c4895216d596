-- What a reader must believe of text: Text (text put into lent bytes, and text in columns).
pub mod Text
