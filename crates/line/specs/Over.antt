-- A line over another: a taking from the one below is a taking from the one above.
use Rattle.std.specs.Prelude.{ℕ, ◌≤◌, List, length, take, Some, None, Ok, Err, Option, Result}
use Rattle.std.proofs.Common.{arith}
use Rattle.protocol.specs.Limits.{frame_bytes_max}
use Rattle.line.specs.Frames.{Frame}
use Rattle.line.specs.Conduct.{Conduct, Took}
use Rattle.line.specs.declared.interface.BufferTooShort.{BufferTooShort}

-- the line above asks for a buffer that is long enough, and answers as the line below
pub took_over : {S U : Type 0} (below : Conduct S) (above : Conduct U) (s t : S) (u v : U) → ((answer : Option Frame) → below.takes s answer t → above.takes u answer v) → (buffer after : List ℕ) (r : Result (Option ℕ) BufferTooShort) → frame_bytes_max ≤ length buffer → Took below s buffer r t after → Took above u buffer r v after
took_over below above s t u v led buffer after (Err e) long h = absurd (omega (arith, h.short))
took_over below above s t u v led buffer after (Ok None) long h = record { long = long; taken = led None h.taken; buffer_kept = h.buffer_kept }
took_over below above s t u v led buffer after (Ok (Some size)) long h =
    record { long = long; within = h.within; taken = led (Some (take size after)) h.taken; rest_kept = h.rest_kept }
