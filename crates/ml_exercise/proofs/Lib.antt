pub mod Lists
pub mod Statuses
pub mod SummedUp
pub mod Joined
pub mod Missed
pub mod Found
