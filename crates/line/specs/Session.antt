-- Sessions: puttings and takings one after another.
use Rattle.std.specs.Prelude.{◌≡◌, ◌⊎◌, List, [], ◌∷◌, map, Some, None, Option}
use Rattle.line.specs.Frames.{Frame, Sized, In}
use Rattle.line.specs.Conduct.{Conduct}

-- a frame was put, or a taking gave a frame or none
pub data Event : Type 0 where
  put : Frame → Event
  took : Option Frame → Event

-- these events, in their order, lead the line from the state s to the state t
abbrev pub Session : {S : Type 0} → Conduct S → S → List Event → S → Type 0
Session line s [] t = t ≡ s
Session {S} line s (put frame ∷ events) t = (u : S) × line.puts s frame u × Session line u events t
Session {S} line s (took answer ∷ events) t = (u : S) × line.takes s answer u × Session line u events t

-- the frames that were put, in order
abbrev pub sent : List Event → List Frame
sent [] = []
sent (put frame ∷ events) = frame ∷ sent events
sent (took answer ∷ events) = sent events

-- the frames that were given, in order
abbrev pub given : List Event → List Frame
given [] = []
given (put frame ∷ events) = given events
given (took (Some frame) ∷ events) = frame ∷ given events
given (took None ∷ events) = given events

-- what was called: a putting of a frame, or a taking
abbrev pub called : Event → Option Frame
called (put frame) = Some frame
called (took answer) = None

-- the same calls on lines that show the same give the same answers, and the lines show the same after
abbrev pub OneOutcome : {S V : Type 0} → (S → V) → Conduct S → Type 0
OneOutcome {S} shows line =
    (s s' t t' : S) (events events' : List Event) → shows s ≡ shows s' → map called events ≡ map called events' →
    Session line s events t → Session line s' events' t' → (events ≡ events') × (shows t ≡ shows t')

-- over any session of an honest line, what waits at the end, or is given then, waited at the start or was put
pub record InventsNothing {S : Type 0} (line : Conduct S) : Type 0 where
  pub waits : (s t : S) (events : List Event) → Session line s events t → (frame : Frame) → In frame (line.waiting t) → In frame (line.waiting s) ⊎ In frame (sent events)
  pub gives : (s t u : S) (events : List Event) → Session line s events t → (frame : Frame) → line.takes t (Some frame) u → Sized frame × (In frame (line.waiting s) ⊎ In frame (sent events))
