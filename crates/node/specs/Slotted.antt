-- A step that changes a node's numbers and slots alone.
use Rattle.std.specs.Prelude.{◌≡◌, ℕ, List, Option}
use Rattle.protocol.specs.declared.records.Token.{Token}
use Rattle.protocol.specs.declared.records.Entry.{Entry}
use Rattle.handoff.specs.Node as rule
use Rattle.node.specs.declared.numbers.Node.{Node}
use Rattle.node.specs.Seen.{seen}

-- the node becomes what the rule makes of it, whatever its value, tokens and entries are, and these stay
pub record Slotted {V : Type 0} (does : rule.Node V → rule.Node V) (n n' : Node) : Type 0 where
  pub number : n'.number ≡ n.number
  pub step : (value : V) (own cached : List (Option (Token V))) (entries : ℕ → Option (Entry V)) → seen n' value own cached entries ≡ does (seen n value own cached entries)
