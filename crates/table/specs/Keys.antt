-- Keys in an order that tells all of them apart.
use Rattle.std.specs.Prelude.{◌≡◌, ℕ, true, false, cond, Decides}
use Rattle.std.specs.Cmp.{IsTotalOrder, Equal-is, tied_itself, nat_cmp_total, on_total, then_total}
use Rattle.std.specs.declared.cmp.Ordering.{Ordering}
use Rattle.std.specs.declared.cmp.Ordering.TheVariants.{Less, Equal, Greater}
use Rattle.std.specs.Ordering.{is_eq, is_lt, nat_cmp, on, then_cmp, ordering_reverse, ordering_then}
use Rattle.std.proofs.Common.{sym, refl, ap, ◌∙◌}
use Rattle.std.proofs.lemmas.Map.Lookups.{CmpEqualImpliesEq, exact_unsigned}
use Rattle.table.specs.Cells.{Keyed}

module _ {Key : Type 0} {cmp : Key → Key → Ordering} (order : IsTotalOrder cmp) (exact : CmpEqualImpliesEq cmp) where
  is_less : (o : Ordering) → is_lt o ≡ true → o ≡ Less
  is_less Less t = refl
  is_less Equal t = cc
  is_less Greater t = cc

  neither : (o p : Ordering) → o ≡ ordering_reverse p → is_lt o ≡ false → is_lt p ≡ false → o ≡ Equal
  neither Less p r e f = cc
  neither Equal p r e f = refl
  neither Greater Less r e f = cc
  neither Greater Equal r e f = r
  neither Greater Greater r e f = cc

  pub order_decides : (a b : Key) → Decides (is_eq (cmp a b)) (a ≡ b)
  order_decides a b = (λ t. exact a b ((Equal-is (cmp a b)).0 t), λ e. ap is_eq (ap (cmp a) (sym e) ∙ tied_itself order a))

  pub order_irreflexive : (a : Key) → is_lt (cmp a a) ≡ false
  order_irreflexive a = ap is_lt (tied_itself order a)

  pub order_transitive : (a b c : Key) → is_lt (cmp a b) ≡ true → is_lt (cmp b c) ≡ true → is_lt (cmp a c) ≡ true
  order_transitive a b c p q = ap is_lt (order.trans a b c (is_less (cmp a b) p) (is_less (cmp b c) q))

  pub order_connected : (a b : Key) → is_lt (cmp a b) ≡ false → is_lt (cmp b a) ≡ false → a ≡ b
  order_connected a b p q = exact a b (neither (cmp a b) (cmp b a) (order.antisymm a b) p q)

  abbrev pub by_order : {R : Type 0} → (R → Key) → Keyed R Key
  by_order key = record {
    key = key;
    alike = λ a b. is_eq (cmp a b);
    decides = order_decides;
    before = λ a b. is_lt (cmp a b);
    irreflexive = order_irreflexive;
    transitive = order_transitive;
    connected = order_connected;
  }

-- an ordering by its tests, so that such keys compare by their order
pub by_tests : (o : Ordering) → o ≡ cond (is_lt o) Less (cond (is_eq o) Equal Greater)
by_tests Less = refl
by_tests Equal = refl
by_tests Greater = refl

-- the order of one number and then of another
abbrev pub two_cmp : {Key : Type 0} → (high low : Key → ℕ) → Key → Key → Ordering
two_cmp high low = then_cmp (on high nat_cmp) (on low nat_cmp)

module _ {Key : Type 0} (high low : Key → ℕ) where
  pub two_order : IsTotalOrder (two_cmp high low)
  two_order = then_total (on_total high nat_cmp_total) (on_total low nat_cmp_total)

  -- two keys of which both numbers are equal are one
  pub two_exact : ((a b : Key) → high a ≡ high b → low a ≡ low b → a ≡ b) → CmpEqualImpliesEq (two_cmp high low)
  two_exact same a b e = let h = both (nat_cmp (high a) (high b)) (nat_cmp (low a) (low b)) e in same a b (exact_unsigned (high a) (high b) h.0) (exact_unsigned (low a) (low b) h.1)
    where
      both : (o p : Ordering) → ordering_then o p ≡ Equal → (o ≡ Equal) × (p ≡ Equal)
      both Less p e = cc
      both Equal p e = (refl, e)
      both Greater p e = cc
