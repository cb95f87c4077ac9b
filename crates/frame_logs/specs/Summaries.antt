-- What each line adds to a summary.
use Rattle.std.specs.Prelude.{ℕ, ◌+◌, ◌&&◌, if◌then◌else◌, nat_le, replicate, None}
use Rattle.frame_logs.specs.declared.counts.Clocks.{Clocks}
use Rattle.frame_logs.specs.declared.summary.Summary.{Summary}
use Rattle.frame_logs.specs.Counts.{stop, one_more, one_more_between, raised}

-- nothing yet
abbrev pub blank : Summary
blank = record { frames = 0; no_hexadecimal = 0; refused = replicate 32 0; senders = replicate 17 None; tokens = replicate 17 (replicate 17 0) }

-- a frame of a sender with its clocks
abbrev pub with_frame : Summary → ℕ → Clocks → Summary
with_frame s sender clocks = record s { frames = stop (s.frames + 1); senders = raised s.senders sender clocks }

-- a token from a source to a destination; of numbers that no node has, none is counted
abbrev pub with_token : Summary → ℕ → ℕ → Summary
with_token s source destination = record s { tokens = if nat_le source 16 && nat_le destination 16 then one_more_between s.tokens source destination else s.tokens }

-- a refusal, by the number of its condition
abbrev pub with_refusal : Summary → ℕ → Summary
with_refusal s number = record s { refused = one_more s.refused number }

-- a line that writes no bytes
abbrev pub with_no_hexadecimal : Summary → Summary
with_no_hexadecimal s = record s { no_hexadecimal = stop (s.no_hexadecimal + 1) }
