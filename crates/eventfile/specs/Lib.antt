-- Event files: settings, records, the whole of a file; and the writer.
pub mod File
pub mod Writer
pub mod Claim
