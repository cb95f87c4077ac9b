-- Dropping dead tokens is the rule.
use Rattle.std.proofs.Common.{◌≡◌, ℕ, ◌+◌, ◌<◌, Bool, true, false, cond, not, ◌&&◌, eqb, ltb, List, ◌++◌, map, length, get_or, take, drop, set, Some, None, Option, sym, refl, ap, ◌∙◌, ap₂, ⊎_elim}
use mathlib.Core.Path.{fun_ext}
use Rattle.std.proofs.lemmas.List.Edits.{map_over_more}
use Rattle.std.proofs.lemmas.Bool.{cases_Bool}
use Rattle.tally.specs.Kind.{Kind}
use Rattle.handoff.specs.Node.{View, Node as Rule}
use Rattle.handoff.specs.Taking.{deadline, alive, drop_dead, with_tokens}
use Rattle.protocol.specs.Keys.{pair, by_pair}
use Rattle.protocol.specs.declared.records.Pair.{Pair}
use Rattle.protocol.specs.declared.records.Token.{Token}
use Rattle.table.specs.Cells.{under, keep, Apart}
use Rattle.table.proofs.Rows.{under_key, under_keep, apart_keep, each_keep}
use Rattle.node.specs.Seen.{seen, showing, tokens_of}
use Rattle.node_tokens.specs.Dropping.{lives, living, Drops}
use Rattle.frame.specs.declared.received.Received.{Received}

module _ {V : Type 0} (j : ℕ) (m : View V) where
  -- a filter of one token is the rule at its key
  kept_is : (o : Option (Token V)) (k l : ℕ) → ((t : Token V) → o ≡ Some t → (t.source ≡ k) × (t.destination ≡ l)) → keep (lives j m) o ≡ cond (eqb l j) (alive (deadline m (m.slots k)) o) o
  kept_is None k l h = both (eqb l j)
    where
      both : (b : Bool) → ◌≡◌ {A = Option (Token V)} None (cond b None None)
      both true = refl
      both false = refl
  kept_is (Some t) k l h = way (eqb t.destination j) (ltb t.destination_clock (deadline m (m.slots t.source))) t ∙ ap₂ (λ y x. cond (eqb y j) (alive (deadline m (m.slots x)) (Some t)) (Some t)) (h t refl).1 (h t refl).0
    where
      way : (b d : Bool) (t : Token V) → cond (not (b && d)) (Some t) None ≡ cond b (cond d None (Some t)) (Some t)
      way true true t = refl
      way true false t = refl
      way false true t = refl
      way false false t = refl

  under_lives : (cells : List (Option (Token V))) → Apart by_pair cells → (k l : ℕ) → under by_pair (map (keep (lives j m)) cells) (pair k l) ≡ cond (eqb l j) (alive (deadline m (m.slots k)) (under by_pair cells (pair k l))) (under by_pair cells (pair k l))
  under_lives cells a k l =
      under_keep by_pair (lives j m) cells a (pair k l)
      ∙ kept_is (under by_pair cells (pair k l)) k l (λ t e. let h = under_key by_pair cells (pair k l) t e in (ap (λ (p : Pair). p.source) h, ap (λ (p : Pair). p.destination) h))

  pub tokens_live : (i : ℕ) (mine cached : List (Option (Token V))) → Apart by_pair mine → Apart by_pair cached → (k l : ℕ) → tokens_of i (map (keep (lives j m)) mine) (map (keep (lives j m)) cached) k l ≡ cond (eqb l j) (alive (deadline m (m.slots k)) (tokens_of i mine cached k l)) (tokens_of i mine cached k l)
  unfolding tokens_of
  tokens_live i mine cached a b k l = ⊎_elim
      (λ (t : eqb k i ≡ true). rw t (under_lives mine a k l))
      (λ (f : eqb k i ≡ false). rw f (under_lives cached b k l))
      (cases_Bool (eqb k i))

-- the loop over the cells
pub lives_more : {V : Type 0} (kind : Kind V) (f : Received) (xs ys : List (Option (Token V))) (i : ℕ) (x y : Option (Token V)) → i < length xs → ys ≡ living kind f (take i xs) ++ drop i xs → x ≡ get_or ys i x → y ≡ keep (lives f.sender (showing kind f)) (get_or ys i x) → set ys i y ≡ living kind f (take (i + 1) xs) ++ drop (i + 1) xs
lives_more kind f xs ys i x y h inv read e = ap (set ys i) (e ∙ ap (keep (lives f.sender (showing kind f))) (sym read)) ∙ map_over_more (keep (lives f.sender (showing kind f))) xs ys i x h inv read

-- two nodes that differ in their tokens
pub same_tokens : {V : Type 0} (n : Rule V) (s t : ℕ → ℕ → Option (Token V)) → ((k l : ℕ) → s k l ≡ t k l) → with_tokens s n ≡ with_tokens t n
same_tokens n s t e = ap (λ z. with_tokens z n) (fun_ext (λ k. fun_ext (λ l. e k l)))

pub drops : {V : Type 0} (kind : Kind V) (f : Received) → Drops kind f
unfolding drop_dead
drops kind f n own mine cached entries a b = (
  same_tokens (seen n own mine cached entries) (tokens_of n.number (living kind f mine) (living kind f cached)) (λ k l. cond (eqb l f.sender) (alive (deadline (showing kind f) ((showing kind f).slots k)) (tokens_of n.number mine cached k l)) (tokens_of n.number mine cached k l)) (tokens_live f.sender (showing kind f) n.number mine cached a.apart b.apart),
  record { each = each_keep by_pair _ (lives f.sender (showing kind f)) mine a.each; apart = apart_keep by_pair (lives f.sender (showing kind f)) mine a.apart },
  record { each = each_keep by_pair _ (lives f.sender (showing kind f)) cached b.each; apart = apart_keep by_pair (lives f.sender (showing kind f)) cached b.apart },
)
