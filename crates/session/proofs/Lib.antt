pub mod Tests
pub mod Notices
pub mod Idles
pub mod Hearing
pub mod Decided
pub mod Replies
