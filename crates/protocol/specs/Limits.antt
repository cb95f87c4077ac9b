-- The limits of the protocol.
use Rattle.std.specs.Prelude.{ℕ}

-- nodes are numbered from 1 to this
abbrev pub nodes_max : ℕ
nodes_max = 16

-- the highest tier; tier 0 is a server
abbrev pub tier_max : ℕ
tier_max = 3

-- no clock and no version exceeds this
abbrev pub clock_max : ℕ
clock_max = 1000000000

-- the shortest and the longest frame
abbrev pub frame_bytes_min : ℕ
frame_bytes_min = 17

abbrev pub frame_bytes_max : ℕ
frame_bytes_max = 1836
