pub mod KnownFolders
pub mod KnownFile
