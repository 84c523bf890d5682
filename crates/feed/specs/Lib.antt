pub mod Feeds
pub mod Layers
pub mod Lists
pub mod Lengths
