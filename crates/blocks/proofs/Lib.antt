pub mod Asking
pub mod Cases
pub mod CasesPayload
pub mod CasesRead
pub mod CasesWrite
pub mod Lengths
pub mod Signs
