pub mod CleanCopies
