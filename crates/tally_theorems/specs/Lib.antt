pub mod KeeperLaws
pub mod MessageLaws
pub mod EnteredTwice
pub mod Trials
pub mod ReadBack
