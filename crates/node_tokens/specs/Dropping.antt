-- What dropping dead tokens leaves of places.
use Rattle.std.specs.Prelude.{◌≡◌, ℕ, Bool, not, ◌&&◌, List, map, Option, ◌==◌}
use Rattle.tally.specs.Kind.{Kind}
use Rattle.table.specs.Cells.{keep}
use Rattle.protocol.specs.declared.records.Token.{Token}
use Rattle.protocol.specs.declared.records.Entry.{Entry}
use Rattle.frame.specs.declared.received.Received.{Received}
use Rattle.handoff.specs.Node.{View}
use Rattle.handoff.specs.Taking.{dead, drop_dead}
use Rattle.node.specs.declared.numbers.Node.{Node}
use Rattle.node.specs.Seen.{seen, showing, Own, Cached}

-- a token that is not for the sender, or is not dead
abbrev pub lives : {V : Type 0} → ℕ → View V → Token V → Bool
lives j shown t = not (t.destination == j && dead shown t)

abbrev pub living : {V : Type 0} → Kind V → Received → List (Option (Token V)) → List (Option (Token V))
living kind frame cells = map (keep (lives frame.sender (showing kind frame))) cells

-- own and cached places with only the living tokens are what the rule leaves, whatever else the node has, and stay lawful
abbrev pub Drops : {V : Type 0} → Kind V → Received → Type 0
Drops {V} kind frame =
    (n : Node) (value : V) (own cached : List (Option (Token V))) (entries : ℕ → Option (Entry V)) → Own n.number own → Cached n.number cached → (seen n value (living kind frame own) (living kind frame cached) entries ≡ drop_dead frame.sender (showing kind frame) (seen n value own cached entries)) × Own n.number (living kind frame own) × Cached n.number (living kind frame cached)
