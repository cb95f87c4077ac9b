-- What the lines of a log add to a summary.
use Rattle.std.specs.Prelude.{ℕ, List, [], ◌∷◌, Ok, Err, Result}
use Rattle.tally.specs.Kind.{Kind}
use Rattle.protocol.specs.Refusals.{condition_number}
use Rattle.protocol.specs.declared.records.Token.{Token}
use Rattle.protocol.specs.declared.refusal.FrameFault.{FrameFault}
use Rattle.frame.specs.Frames.{Frame, judge}
use Rattle.frame_logs.specs.declared.standing.NoHexadecimal.{NoHexadecimal}
use Rattle.frame_logs.specs.declared.summary.Summary.{Summary}
use Rattle.frame_logs.specs.Lines.{line_bytes}
use Rattle.frame_logs.specs.Summaries.{with_frame, with_token, with_refusal, with_no_hexadecimal}

module _ {V : Type 0} where
  -- tokens, in their order
  abbrev pub with_tokens : Summary → List (Token V) → Summary
  with_tokens s [] = s
  with_tokens s (token ∷ tokens) = with_tokens (with_token s token.source token.destination) tokens

  -- a lawful frame: its sender with its clocks, and each token of its list
  abbrev pub with_lawful : Summary → Frame V → Summary
  with_lawful s frame = with_tokens (with_frame s frame.sender (record { source = frame.source_clock; destination = frame.destination_clock })) frame.token_list

  -- bytes by their judgement: a lawful frame, or a refusal
  abbrev pub with_judged : Summary → Result (Frame V) FrameFault → Summary
  with_judged s (Ok frame) = with_lawful s frame
  with_judged s (Err fault) = with_refusal s (condition_number fault.condition)

  -- a line by the bytes that it writes: a blank one adds nothing
  abbrev pub with_bytes : Kind V → Summary → Result (List ℕ) NoHexadecimal → Summary
  with_bytes kind s (Ok []) = s
  with_bytes kind s (Ok (b ∷ bytes)) = with_judged s (judge kind (b ∷ bytes))
  with_bytes kind s (Err why) = with_no_hexadecimal s

  -- a line by its text
  abbrev pub with_line : Kind V → Summary → List ℕ → Summary
  with_line kind s text = with_bytes kind s (line_bytes text)
