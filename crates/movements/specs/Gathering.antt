-- What a join has gathered so far: the first sixteen pairs are kept, and the counts of all others go to the rest.
use Rattle.std.specs.Prelude.{ℕ, ◌+◌, cond, replicate, nat_lt, slice_set}
use Rattle.movements.specs.declared.join.Gathered.{Gathered}
use Rattle.movements.specs.declared.pair.Pair.{Pair}
use Rattle.movements.specs.Pairs.{stop, unused}

-- no pair yet, and two rests as one
abbrev pub start : ℕ → ℕ → Gathered
start r s = record { pairs = replicate 16 unused; used = 0; rest = stop (r + s) }

-- one more pair
abbrev pub with_pair : Gathered → Pair → Gathered
with_pair g p =
    cond (nat_lt g.used 16)
    (record { pairs = slice_set g.pairs g.used p; used = g.used + 1; rest = g.rest })
    (record { pairs = g.pairs; used = g.used; rest = stop (g.rest + p.count) })
