-- A line by rule: what it shows decides what each call gives and what it shows next.
use Rattle.std.specs.Prelude.{◌≡◌, List, Option}
use Rattle.line.specs.Frames.{Frame}
use Rattle.line.specs.Conduct.{Conduct}

-- a rule for lines that show a value of the type V
pub record Rule (V : Type 0) : Type 0 where
  -- the frames that wait
  pub waiting : V → List Frame
  -- what it shows once a frame is put
  pub put : V → Frame → V
  -- the frame that a taking gives, or none
  pub gives : V → Option Frame
  -- what it shows once that is taken
  pub left : V → V

-- the line that goes exactly by a rule, on what its states show
abbrev pub by_rule : {S V : Type 0} → (S → V) → Rule V → Conduct S
by_rule shows rule = record {
  waiting = λ s. rule.waiting (shows s);
  puts = λ s frame t. shows t ≡ rule.put (shows s) frame;
  takes = λ s answer t. (answer ≡ rule.gives (shows s)) × (shows t ≡ rule.left (shows s));
}
