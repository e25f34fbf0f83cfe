pub mod Forms
pub mod Indexes
pub mod Shared
