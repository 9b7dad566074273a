pub mod HostStreams
pub mod HostDisk
pub mod HostDiskState
pub mod Told
pub mod Folders
pub mod HostKnown
