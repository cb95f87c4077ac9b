-- The digit that waits for its pair.
use Rattle.std.specs.Prelude.{ℕ}
use Rattle.frame_logs.specs.declared.standing.Standing.{Standing}
use Rattle.frame_logs.specs.declared.standing.Standing.TheVariants.{Paired, Half, Broken}

-- where none waits, 0
abbrev pub waiting : Standing → ℕ
waiting Paired = 0
waiting (Half digit) = digit
waiting (Broken byte) = 0
