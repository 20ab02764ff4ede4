-- Each call leaves boxes that stand for sound slots.
-- Assumes nothing.
pub mod Primary
pub mod Acceptor
pub mod Backup
pub mod Learner
pub mod Reading
