-- The first fault of a list of pairs, in words.
use Rattle.std.specs.Prelude.{◌≡◌, ℕ, zero, suc, ◌+◌, ◌-◌, ◌<◌, ◌≤◌, true, false, ltb, ◌⊎◌, List, [], ◌∷◌, length, get_or, is_some, Some, None, Option, ◌==◌, nat_eq, nat_lt, slice_index_or, refl}
use Rattle.std.proofs.Common.{sym, ap, subst, ◌∙◌, inl, inr, ⊎_elim, arith}
use Rattle.std.proofs.lemmas.Bool.{le-ltb, eqb-true, eqb-false, ltb-false, eq-eqb, ne_eqb, cases_Bool, cases_eq, cases_lt, true≢false}
use Rattle.movements.specs.declared.fault.PairFault.{PairFault}
use Rattle.movements.specs.declared.fault.PairFault.TheVariants.{HalfUsed, AfterUnused, NotRising}
use Rattle.movements.specs.declared.pair.Pair.{Pair}
use Rattle.movements.specs.Pairs.{unused, Unused, Used}
use Rattle.movements.specs.Faults.{Found, used_fault, fault_of, or_later, first_from, first_fault}
use Rattle.movements.specs.Order.{Follows, right_pair}

-- of key and count one is zero and the other is not
abbrev pub Half : Pair → Type 0
Half p = ((p.key ≡ 0) × (0 < p.count)) ⊎ ((0 < p.key) × (p.count ≡ 0))

-- pair i of a list has this fault
abbrev pub Has : List Pair → ℕ → PairFault → Type 0
Has ps i HalfUsed = Half (slice_index_or ps i unused)
Has ps i AfterUnused = Used (slice_index_or ps i unused) × ((j : ℕ) × (j < i) × Unused (slice_index_or ps j unused))
Has ps i NotRising = Used (slice_index_or ps i unused) × (1 ≤ i) × ((get_or ps i unused).key ≤ (get_or ps (i - 1) unused).key)

-- pair i has this fault, and no pair before it has one
pub record First (ps : List Pair) (i : ℕ) (f : PairFault) : Type 0 where
  pub within : i < length ps
  pub here : Has ps i f
  pub none_before : (j : ℕ) (g : PairFault) → j < i → Has ps j g → ⊥

-- what stands before the n-th pair of a list that stands after a pair, or first
abbrev before_in : Option Pair → List Pair → ℕ → Option Pair
before_in before ps zero = before
before_in before ps (suc n) = Some (slice_index_or ps n unused)

abbrev fault_in : Option Pair → List Pair → ℕ → Option PairFault
fault_in before ps n = fault_of (slice_index_or ps n unused) (before_in before ps n)

pub none_found : (found : Option Found) → is_some found ≡ false → found ≡ None
none_found None e = refl
none_found (Some f) e = absurd (true≢false e)

-- where a fault was found
pub record FoundAt (ps : List Pair) (i : ℕ) (before : Option Pair) (f : Found) : Type 0 where
  pub offset : ℕ
  pub pair_is : f.pair ≡ i + offset
  pub within : offset < length ps
  pub here : fault_in before ps offset ≡ Some f.fault
  pub earlier : (m : ℕ) → m < offset → fault_in before ps m ≡ None

fault_next : (before : Option Pair) (p : Pair) (ps : List Pair) (m : ℕ) → fault_in before (p ∷ ps) (suc m) ≡ fault_in (Some p) ps m
fault_next before p ps zero = refl
fault_next before p ps (suc m) = refl

found_here_or_later : (i : ℕ) (before : Option Pair) (p : Pair) (ps : List Pair) (f : Found) (o : Option PairFault) → fault_of p before ≡ o → or_later i o (first_from (i + 1) (Some p) ps) ≡ Some f
    → (first_from (i + 1) (Some p) ps ≡ Some f → FoundAt ps (i + 1) (Some p) f) → FoundAt (p ∷ ps) i before f
found_here_or_later i before p ps f None h e later =
    let v = later e in
    let earlier : (m : ℕ) → m < suc v.offset → fault_in before (p ∷ ps) m ≡ None = λ m. elim m as (λ k. k < suc v.offset → fault_in before (p ∷ ps) k ≡ None) [ zero ↦ λ l. h | suc k ↦ λ l. fault_next before p ps k ∙ v.earlier k (omega arith) ] in
    record { offset = suc v.offset; pair_is = omega (arith, v.pair_is); within = omega (arith, v.within); here = fault_next before p ps v.offset ∙ v.here; earlier = earlier }
found_here_or_later i before p ps f (Some g) h e later =
    let q : record { pair = i; fault = g } ≡ f = cc in
    record { offset = 0; pair_is = omega (arith, ap (λ v. v.pair) q); within = omega arith; here = h ∙ ap (λ v. Some v.fault) q; earlier = λ m l. absurd (omega arith) }

pub found_at : (ps : List Pair) (i : ℕ) (before : Option Pair) (f : Found) → first_from i before ps ≡ Some f → FoundAt ps i before f
unfolding first_from
found_at [] i before f e = let z : ◌≡◌ {A = ℕ} 0 1 = cc in absurd (omega arith)
found_at (p ∷ ps) i before f e = found_here_or_later i before p ps f (fault_of p before) refl e (found_at ps (i + 1) (Some p) f)

-- the first fault is the one that no other stands before
first_is : (ps : List Pair) (i n : ℕ) (before : Option Pair) (f : PairFault) → n < length ps → fault_in before ps n ≡ Some f → ((m : ℕ) → m < n → fault_in before ps m ≡ None) → first_from i before ps ≡ Some (record { pair = i + n; fault = f })
unfolding first_from
first_is [] i n before f l e earlier = absurd (omega arith)
first_is (p ∷ ps) i zero before f l e earlier = let q : i ≡ i + 0 = omega arith in ap (λ o. or_later i o (first_from (i + 1) (Some p) ps)) e ∙ ap (λ k. Some (record { pair = k; fault = f })) q
first_is (p ∷ ps) i (suc n) before f l e earlier =
    let q : i + 1 + n ≡ i + suc n = omega arith in
    ap (λ o. or_later i o (first_from (i + 1) (Some p) ps)) (earlier 0 (omega arith))
    ∙ first_is ps (i + 1) n (Some p) f (omega arith) (sym (fault_next before p ps n) ∙ e) (λ m h. sym (fault_next before p ps m) ∙ earlier (suc m) (omega arith))
    ∙ ap (λ k. Some (record { pair = k; fault = f })) q

later_none : (i : ℕ) (o : Option PairFault) (later : Option Found) → or_later i o later ≡ None → (o ≡ None) × (later ≡ None)
later_none i None later e = (refl, e)
later_none i (Some f) later e = let z : ◌≡◌ {A = ℕ} 0 1 = cc in absurd (omega arith)

none_in : (ps : List Pair) (i m : ℕ) (before : Option Pair) → first_from i before ps ≡ None → m < length ps → fault_in before ps m ≡ None
unfolding first_from
none_in [] i m before e l = absurd (omega arith)
none_in (p ∷ ps) i zero before e l = (later_none i (fault_of p before) _ e).0
none_in (p ∷ ps) i (suc m) before e l = fault_next before p ps m ∙ none_in ps (i + 1) m (Some p) (later_none i (fault_of p before) _ e).1 (omega arith)

-- a pair with a fault is half used, or used where it may not stand
half_or_used : (p : Pair) (before : Option Pair) (f : PairFault) → fault_of p before ≡ Some f → (Half p × (f ≡ HalfUsed)) ⊎ (Used p × (used_fault p before ≡ Some f))
half_or_used p before f e =
    ⊎_elim (λ (k : nat_eq p.key 0 ≡ true).
    ⊎_elim (λ (c : nat_eq p.count 0 ≡ true). let h = rw (k, c) at e in let z : ◌≡◌ {A = ℕ} 0 1 = cc in absurd (omega arith))
    (λ (c : nat_eq p.count 0 ≡ false). let h = rw (k, c) at e in inl (inl (eqb-true p.key 0 k, omega (arith, eqb-false p.count 0 c)), cc))
    (cases_Bool (p.count == 0)))
    (λ (k : nat_eq p.key 0 ≡ false).
    ⊎_elim (λ (c : nat_eq p.count 0 ≡ true). let h = rw (k, c) at e in inl (inr (omega (arith, eqb-false p.key 0 k), eqb-true p.count 0 c), cc))
    (λ (c : nat_eq p.count 0 ≡ false). let h = rw (k, c) at e in inr ((omega (arith, eqb-false p.key 0 k), omega (arith, eqb-false p.count 0 c)), h))
    (cases_Bool (p.count == 0)))
    (cases_Bool (p.key == 0))

used_wrong : (p last : Pair) (f : PairFault) → used_fault p (Some last) ≡ Some f → ((last.key ≡ 0) × (f ≡ AfterUnused)) ⊎ ((p.key ≤ last.key) × (f ≡ NotRising))
used_wrong p last f e =
    ⊎_elim (λ (z : nat_eq last.key 0 ≡ true). let h = rw z at e in inl (eqb-true last.key 0 z, cc))
    (λ (z : nat_eq last.key 0 ≡ false).
    ⊎_elim (λ (t : ltb last.key p.key ≡ true). let h = rw (z, t) at e in let n : ◌≡◌ {A = ℕ} 0 1 = cc in absurd (omega arith))
    (λ (t : ltb last.key p.key ≡ false). let h = rw (z, t) at e in inr (ltb-false last.key p.key t, cc))
    (cases_Bool (nat_lt last.key p.key)))
    (cases_Bool (last.key == 0))

one_less : (ps : List Pair) (m : ℕ) → (get_or ps (suc m - 1) unused).key ≡ (get_or ps m unused).key
one_less ps m = ap (λ k. (get_or ps k unused).key) (omega arith)

-- an unused pair before one that has no fault has count 0 too
unused_count : (p : Pair) (before : Option Pair) → fault_of p before ≡ None → p.key ≡ 0 → Unused p
unused_count p before e z = ⊎_elim (λ (u : Unused p). u) (λ (f : Follows before p). absurd (omega arith)) (right_pair p before e)

-- what the test finds is what the words say
has_fault : (ps : List Pair) (i : ℕ) (f : PairFault) → fault_in None ps i ≡ Some f → ((m : ℕ) → m < i → fault_in None ps m ≡ None) → Has ps i f
has_fault ps zero f e earlier =
    ⊎_elim (λ (h : Half (slice_index_or ps 0 unused) × (f ≡ HalfUsed)). subst (Has ps 0) (sym h.1) h.0)
    (λ (h : Used (slice_index_or ps 0 unused) × (None ≡ Some f)). let t = h.1 in let z : ◌≡◌ {A = ℕ} 0 1 = cc in absurd (omega arith))
    (half_or_used (slice_index_or ps 0 unused) None f e)
has_fault ps (suc m) f e earlier =
    let p = get_or ps (suc m) unused in
    let last = get_or ps m unused in
    ⊎_elim (λ (h : Half p × (f ≡ HalfUsed)). subst (Has ps (suc m)) (sym h.1) h.0)
    (λ (h : Used p × (used_fault p (Some last) ≡ Some f)).
    ⊎_elim (λ (t : (last.key ≡ 0) × (f ≡ AfterUnused)). subst (Has ps (suc m)) (sym t.1) (h.0, (m, omega arith, unused_count last (before_in None ps m) (earlier m (omega arith)) t.0)))
    (λ (t : (p.key ≤ last.key) × (f ≡ NotRising)). subst (Has ps (suc m)) (sym t.1) (h.0, omega arith, omega (arith, one_less ps m)))
    (used_wrong p last f h.1))
    (half_or_used p (Some last) f e)

-- after an unused pair all are unused, as long as none has a fault
stays_unused : (ps : List Pair) (j m : ℕ) → j ≤ m → Unused (slice_index_or ps j unused) → ((k : ℕ) → k ≤ m → fault_in None ps k ≡ None) → Unused (slice_index_or ps m unused)
stays_unused ps j zero h u earlier = let e : get_or ps j unused ≡ get_or ps 0 unused = ap (λ k. get_or ps k unused) (omega arith) in subst Unused e u
stays_unused ps j (suc m) h u earlier =
    ⊎_elim (λ (e : j ≡ suc m). subst (λ k. Unused (slice_index_or ps k unused)) e u)
    (λ (e : j ≡ suc m → ⊥).
    let v = stays_unused ps j m (omega arith) u (λ k l. earlier k (omega arith)) in
    ⊎_elim (λ (w : Unused (slice_index_or ps (suc m) unused)). w) (λ (f : Follows (Some (slice_index_or ps m unused)) (slice_index_or ps (suc m) unused)). absurd (omega (arith, f.0, v.0)))
    (right_pair (slice_index_or ps (suc m) unused) (before_in None ps (suc m)) (earlier (suc m) (omega arith))))
    (cases_eq j (suc m))

half_found : (p : Pair) (before : Option Pair) → Half p → fault_of p before ≡ Some HalfUsed
half_found p before h =
    ⊎_elim (λ (t : (p.key ≡ 0) × (0 < p.count)). rw (eq-eqb p.key 0 t.0, ne_eqb p.count 0 (omega arith)))
    (λ (t : (0 < p.key) × (p.count ≡ 0)). rw (ne_eqb p.key 0 (omega arith), eq-eqb p.count 0 t.1))
    h

-- and what the words say is found
fault_found : (ps : List Pair) (i : ℕ) (f : PairFault) → Has ps i f → ((m : ℕ) → m < i → fault_in None ps m ≡ None) → fault_in None ps i ≡ Some f
fault_found ps i HalfUsed h earlier = half_found (slice_index_or ps i unused) (before_in None ps i) h
fault_found ps zero AfterUnused h earlier = absurd (omega (arith, h.1.1))
fault_found ps (suc m) AfterUnused h earlier =
    let p = get_or ps (suc m) unused in
    let last = get_or ps m unused in
    let u = stays_unused ps h.1.0 m (omega (arith, h.1.1)) h.1.2 (λ k l. earlier k (omega arith)) in
    rw (ne_eqb p.key 0 (omega (arith, h.0.0)), ne_eqb p.count 0 (omega (arith, h.0.1)), eq-eqb last.key 0 u.0)
fault_found ps zero NotRising h earlier = absurd (omega (arith, h.1))
fault_found ps (suc m) NotRising h earlier =
    let p = get_or ps (suc m) unused in
    let last = get_or ps m unused in
    let l : p.key ≤ last.key = omega (arith, h.2, one_less ps m) in
    rw (ne_eqb p.key 0 (omega (arith, h.0.0)), ne_eqb p.count 0 (omega (arith, h.0.1)), ne_eqb last.key 0 (omega (arith, h.0.0)), le-ltb last.key p.key l)

none_has : (ps : List Pair) (i : ℕ) → ((m : ℕ) → m ≤ i → fault_in None ps m ≡ None) → (f : PairFault) → Has ps i f → ⊥
none_has ps i clear f h =
    let a = fault_found ps i f h (λ m l. clear m (omega arith)) in
    let b = clear i (omega arith) in
    let z : ◌≡◌ {A = ℕ} 0 1 = cc in omega arith

maybe : (o : Option PairFault) → (o ≡ None) ⊎ ((f : PairFault) × (o ≡ Some f))
maybe None = inl refl
maybe (Some f) = inr (f, refl)

none_tested : (ps : List Pair) (i : ℕ) → ((j : ℕ) (g : PairFault) → j < i → Has ps j g → ⊥) → (m : ℕ) → m < i → fault_in None ps m ≡ None
none_tested ps zero clear m l = absurd (omega arith)
none_tested ps (suc i) clear m l =
    let earlier = none_tested ps i (λ j g h. clear j g (omega arith)) in
    ⊎_elim (λ (h : m < i). earlier m h)
    (λ (h : i ≤ m).
    let e : i ≡ m = omega arith in
    ⊎_elim (λ (n : fault_in None ps i ≡ None). subst (λ k. fault_in None ps k ≡ None) e n)
    (λ (s : (f : PairFault) × (fault_in None ps i ≡ Some f)). absurd (clear i s.0 (omega arith) (has_fault ps i s.0 s.1 earlier)))
    (maybe (fault_in None ps i)))
    (cases_lt m i)

pub first_in_words : (ps : List Pair) (f : Found) → first_fault ps ≡ Some f → First ps f.pair f.fault
first_in_words ps f e =
    let v = found_at ps 0 None f e in
    let q : v.offset ≡ f.pair = omega (arith, v.pair_is) in
    subst (λ k. First ps k f.fault) q (record {
      within = v.within;
      here = has_fault ps v.offset f.fault v.here v.earlier;
      none_before = λ j g l. none_has ps j (λ m h. v.earlier m (omega arith)) g;
    })

pub words_of_first : (ps : List Pair) (i : ℕ) (f : PairFault) → First ps i f → first_fault ps ≡ Some (record { pair = i; fault = f })
words_of_first ps i f w =
    let earlier = none_tested ps i w.none_before in
    let q : 0 + i ≡ i = omega arith in
    first_is ps 0 i None f w.within (fault_found ps i f w.here earlier) earlier ∙ ap (λ k. Some (record { pair = k; fault = f })) q

pub none_in_words : (ps : List Pair) → first_fault ps ≡ None → (i : ℕ) (f : PairFault) → i < length ps → Has ps i f → ⊥
none_in_words ps e i f l = none_has ps i (λ m h. none_in ps 0 m None e (omega arith)) f
