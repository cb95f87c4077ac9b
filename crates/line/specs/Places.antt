-- How many frames a queue keeps.
use Rattle.std.specs.Prelude.{ℕ}

abbrev pub queue_places : ℕ
queue_places = 8
