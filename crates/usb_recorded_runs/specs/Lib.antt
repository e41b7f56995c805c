pub mod Exchanges
pub mod Captures
pub mod Findings
pub mod Answers
pub mod Files
pub mod Laws
