-- Pairs asked one after another: the first fault is that of the pairs still to come.
use Rattle.std.proofs.Common.{◌≡◌, ℕ, ◌+◌, ◌<◌, ◌≤◌, List, length, get_or, drop, Some, None, Err, Option, refl, sym, ap, ◌∙◌}
use Rattle.std.specs.Option.{option_map}
use Rattle.std.proofs.lemmas.List.{drop_more, drop_all}
use Rattle.tally.specs.declared.fault.Fault.{Fault}
use Rattle.movements.specs.declared.fault.PairFault.{PairFault}
use Rattle.movements.specs.declared.pair.Pair.{Pair}
use Rattle.movements.specs.Pairs.{unused}
use Rattle.movements.specs.Faults.{Found, first_from, first_fault, or_later, fault_of}
use Rattle.movements.specs.Coding.{reported, pairs_in, read, read_err}

-- a fault of pair i, as it is reported
abbrev pub told : ℕ → Option PairFault → Option Fault
told i = option_map (λ f. reported (record { pair = i; fault = f }))

or_later_none : (i : ℕ) (o : Option PairFault) (later : Option Found) → None ≡ told i o → or_later i o later ≡ later
or_later_none i None later e = refl
or_later_none i (Some f) later e = cc

or_later_some : (i : ℕ) (o : Option PairFault) (later : Option Found) (fault : Fault) → Some fault ≡ told i o → Some fault ≡ option_map reported (or_later i o later)
or_later_some i None later fault e = cc
or_later_some i (Some f) later fault e = e

module _ (ps : List Pair) (i : ℕ) (before : Option Pair) (was : first_from i before (drop i ps) ≡ first_fault ps) where
  asked : i < length ps → or_later i (fault_of (get_or ps i unused) before) (first_from (i + 1) (Some (get_or ps i unused)) (drop (i + 1) ps)) ≡ first_fault ps
  unfolding first_from
  asked h = ap (first_from i before) (sym (drop_more ps i unused h)) ∙ was

  pub ask_more : i < length ps → None ≡ told i (fault_of (get_or ps i unused) before) → first_from (i + 1) (Some (get_or ps i unused)) (drop (i + 1) ps) ≡ first_fault ps
  ask_more h e = sym (or_later_none i _ _ e) ∙ asked h

  pub ask_fault : (fault : Fault) → i < length ps → Some fault ≡ told i (fault_of (get_or ps i unused) before) → Some fault ≡ option_map reported (first_fault ps)
  ask_fault fault h e = or_later_some i _ _ fault e ∙ ap (option_map reported) (asked h)

  pub ask_all : length ps ≤ i → None ≡ first_fault ps
  unfolding first_from
  ask_all h = ap (first_from i before) (sym (drop_all i ps h)) ∙ was

-- pairs without a reported fault have none
pub none_told : (o : Option Found) → None ≡ option_map reported o → o ≡ None
none_told None e = refl
none_told (Some f) e = cc

some_told_by : (b : List ℕ) (fault : Fault) (o : Option Found) → first_fault (pairs_in b) ≡ o → Some fault ≡ option_map reported o → Err fault ≡ read b
some_told_by b fault None e t = cc
some_told_by b fault (Some f) e t = let h : fault ≡ reported f = cc in ap Err h ∙ sym (read_err b f e)

-- the fault that is reported is what reading answers
pub some_told : (b : List ℕ) (ps : List Pair) (fault : Fault) → ps ≡ pairs_in b → Some fault ≡ option_map reported (first_fault ps) → Err fault ≡ read b
some_told b ps fault e t = some_told_by b fault (first_fault (pairs_in b)) refl (t ∙ ap (λ qs. option_map reported (first_fault qs)) e)
