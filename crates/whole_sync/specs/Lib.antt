pub mod Disks
pub mod Listing
pub mod Lists
pub mod Protocol
pub mod Replacing
pub mod Stops
