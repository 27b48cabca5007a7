-- Which library runs. Cited by the promises of mq_version and mq_book_bytes. Assumes nothing.
use Rattle.std.specs.Prelude.{ℕ, ◌+◌, ◌*◌}

-- version 0.9.0: major times 10000, minor times 100, patch
abbrev pub version : ℕ
version = 0 * 10000 + 9 * 100 + 0

-- sixteen seats, each of seven numbers, 40 places of eight numbers and 15 timeslots of five, a byte each
abbrev pub book_size : ℕ
book_size = 16 * (7 + 40 * 8 + 15 * 5)
