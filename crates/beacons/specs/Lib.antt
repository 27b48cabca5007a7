pub mod Beacons
pub mod Calls
