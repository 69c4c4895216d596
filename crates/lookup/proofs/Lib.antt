-- Places (the spans that meet a query stand together), Returns (the answers, as code finds them), Meaning (what they mean).
pub mod Places
pub mod Returns
pub mod Meaning
