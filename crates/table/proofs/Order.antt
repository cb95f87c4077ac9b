-- The least key above a given one.
use Rattle.std.proofs.Common.{◌≡◌, ℕ, zero, suc, ◌+◌, ◌<◌, ◌≤◌, true, false, cond, ◌⊎◌, List, [], ◌∷◌, get_or, Some, None, Option, sym, refl, ◌∙◌, subst, inl, inr, ⊎_elim, arith}
use Rattle.std.specs.List.{fold, reduce}
use Rattle.std.proofs.lemmas.Bool.{cases_Bool, both_ways, cond_both}
use Rattle.std.proofs.lemmas.Option.{none-some}
use Rattle.table.specs.Cells.{Keyed, under, place_of}
use Rattle.table.specs.Order.{above, lesser, keys_above, least_above, HasNext, NextAbove, left_above}
use Rattle.table.proofs.Rows.{under_nil, under_past, under_here, under_key, alike_is, place_none, place_at}

module _ {R Key : Type 0} (keyed : Keyed R Key) where
  -- keys that are not before one another, in a row
  not_before : (a b c : Key) → keyed.before a b ≡ false → keyed.before b c ≡ false → keyed.before a c ≡ false
  not_before a b c p q = ⊎_elim
      (λ (t : keyed.before a c ≡ true). absurd (⊎_elim
      (λ (u : keyed.before c b ≡ true). both_ways _ p (keyed.transitive a c b t u))
      (λ (f : keyed.before c b ≡ false). both_ways _ p (subst (λ z. keyed.before a z ≡ true) (sym (keyed.connected b c q f)) t))
      (cases_Bool (keyed.before c b))))
      (λ (f : keyed.before a c ≡ false). f)
      (cases_Bool (keyed.before a c))

  -- the lesser of two keys is one of them, and neither is before it
  record Lesser (a b m : Key) : Type 0 where
    is : (m ≡ a) ⊎ (m ≡ b)
    first : keyed.before a m ≡ false
    second : keyed.before b m ≡ false

  lesser_is : (a b : Key) → Lesser a b (lesser keyed a b)
  lesser_is a b = ⊎_elim
      (λ (t : keyed.before a b ≡ true). rw t (record {
        is = inl refl;
        first = keyed.irreflexive a;
        second = ⊎_elim (λ (u : keyed.before b a ≡ true). absurd (both_ways _ (keyed.irreflexive a) (keyed.transitive a b a t u))) (λ (f : keyed.before b a ≡ false). f) (cases_Bool (keyed.before b a));
      }))
      (λ (f : keyed.before a b ≡ false). ⊎_elim
      (λ (t : keyed.alike a b ≡ true). rw (f, t) (record { is = inl refl; first = keyed.irreflexive a; second = subst (λ z. keyed.before z a ≡ false) (alike_is keyed a b t) (keyed.irreflexive a) }))
      (λ (g : keyed.alike a b ≡ false). rw (f, g) (record { is = inr refl; first = f; second = keyed.irreflexive b }))
      (cases_Bool (keyed.alike a b)))
      (cases_Bool (keyed.before a b))

  In : Key → List Key → Type 0
  In k [] = ⊥
  In k (x ∷ xs) = (k ≡ x) ⊎ In k xs

  record Least (keys : List Key) (m : Key) : Type 0 where
    is : In m keys
    least : (k : Key) → In k keys → keyed.before k m ≡ false

  fold_least : (best : Key) (keys : List Key) → Least (best ∷ keys) (fold (lesser keyed) best keys)
  unfolding In
  fold_least best [] = record { is = inl refl; least = λ k. ⊎_elim (λ (e : k ≡ best). rw e (keyed.irreflexive best)) (λ (h : ⊥). absurd h) }
  fold_least best (x ∷ xs) =
      let l = lesser_is best x in
      let m = fold (lesser keyed) (lesser keyed best x) xs in
      let ih = fold_least (lesser keyed best x) xs in
      let low : keyed.before (lesser keyed best x) m ≡ false = ih.least (lesser keyed best x) (inl refl) in
      record {
        is = ⊎_elim (λ (e : m ≡ lesser keyed best x). ⊎_elim (λ (h : lesser keyed best x ≡ best). inl (e ∙ h)) (λ (h : lesser keyed best x ≡ x). inr (inl (e ∙ h))) l.is) (λ (h : In m xs). inr (inr h)) ih.is;
        least = λ k. ⊎_elim
            (λ (e : k ≡ best). rw e (not_before best (lesser keyed best x) m l.first low))
            (⊎_elim (λ (e : k ≡ x). rw e (not_before x (lesser keyed best x) m l.second low)) (λ (h : In k xs). ih.least k (inr h)));
      }

  -- the keys of the records, as keys above the last one
  further : (r : R) (cs : List (Option R)) (k : Key) → ((x : R) × (under keyed cs k ≡ Some x)) → (x : R) × (under keyed (Some r ∷ cs) k ≡ Some x)
  further r cs k u = ⊎_elim
      (λ (t : keyed.alike k (keyed.key r) ≡ true). (r, under_here keyed r cs k t))
      (λ (f : keyed.alike k (keyed.key r) ≡ false). (u.0, under_past keyed (Some r) cs k f ∙ u.1))
      (cases_Bool (keyed.alike k (keyed.key r)))

  keys_stand : (last : Option Key) (cells : List (Option R)) (k : Key) → In k (keys_above keyed cells last) → ((x : R) × (under keyed cells k ≡ Some x)) × (above keyed last k ≡ true)
  unfolding In
  keys_stand last [] k h = absurd h
  keys_stand last (None ∷ cs) k h = let ih = keys_stand last cs k h in ((ih.0.0, under_past keyed None cs k refl ∙ ih.0.1), ih.1)
  keys_stand last (Some r ∷ cs) k h = ⊎_elim
      (λ (t : above keyed last (keyed.key r) ≡ true). ⊎_elim
      (λ (e : k ≡ keyed.key r). ((r, under_here keyed r cs k ((keyed.decides k (keyed.key r)).1 e)), rw e t))
      (λ (g : In k (keys_above keyed cs last)). let ih = keys_stand last cs k g in (further r cs k ih.0, ih.1))
      (rw t at h))
      (λ (f : above keyed last (keyed.key r) ≡ false). let ih = keys_stand last cs k (rw f at h) in (further r cs k ih.0, ih.1))
      (cases_Bool (above keyed last (keyed.key r)))

  stand_keys : (last : Option Key) (cells : List (Option R)) (k : Key) (x : R) → under keyed cells k ≡ Some x → above keyed last k ≡ true → In k (keys_above keyed cells last)
  unfolding In
  stand_keys last [] k x u a = absurd (none-some x (sym (under_nil keyed k) ∙ u))
  stand_keys last (None ∷ cs) k x u a = stand_keys last cs k x (sym (under_past keyed None cs k refl) ∙ u) a
  stand_keys last (Some r ∷ cs) k x u a = ⊎_elim
      (λ (t : keyed.alike k (keyed.key r) ≡ true). let e = alike_is keyed k (keyed.key r) t in let h : above keyed last (keyed.key r) ≡ true = subst (λ z. above keyed last z ≡ true) e a in rw h (inl e))
      (λ (f : keyed.alike k (keyed.key r) ≡ false).
      let ih = stand_keys last cs k x (sym (under_past keyed (Some r) cs k f) ∙ u) a in
      ⊎_elim (λ (t : above keyed last (keyed.key r) ≡ true). rw t (inr ih)) (λ (g : above keyed last (keyed.key r) ≡ false). rw g ih) (cases_Bool (above keyed last (keyed.key r))))
      (cases_Bool (keyed.alike k (keyed.key r)))

  none_above : (keys : List Key) (k : Key) → None ≡ reduce (lesser keyed) keys → In k keys → ⊥
  unfolding In
  none_above [] k e h = h
  none_above (x ∷ xs) k e h = none-some (fold (lesser keyed) x xs) e

  some_above : (keys : List Key) (m : Key) → Some m ≡ reduce (lesser keyed) keys → Least keys m
  some_above [] m e = absurd (none-some m (sym e))
  some_above (x ∷ xs) m e = let h : m ≡ fold (lesser keyed) x xs = cc in subst (Least (x ∷ xs)) (sym h) (fold_least x xs)

  -- where no key of a record is among some, nothing stands under it
  gone : (cells : List (Option R)) (k : Key) → ((x : R) → under keyed cells k ≡ Some x → ⊥) → under keyed cells k ≡ None
  gone cells k h = by (under keyed cells k) refl
    where
      by : (held : Option R) → under keyed cells k ≡ held → held ≡ None
      by None e = refl
      by (Some x) e = absurd (h x e)

  pub next_none : (cells : List (Option R)) (last : Option Key) → None ≡ least_above keyed cells last → NextAbove keyed cells last None
  next_none cells last e k a = gone cells k (λ x u. none_above (keys_above keyed cells last) k e (stand_keys last cells k x u a))

  pub next_found : (cells : List (Option R)) (last : Option Key) (k : Key) (r : Option ℕ) → Some k ≡ least_above keyed cells last → r ≡ place_of keyed cells k → NextAbove keyed cells last r
  next_found cells last k r e p =
      let l = some_above (keys_above keyed cells last) k e in
      let s = keys_stand last cells k l.is in
      by r p l s.0 s.1
    where
      by : (r : Option ℕ) → r ≡ place_of keyed cells k → Least (keys_above keyed cells last) k → ((x : R) × (under keyed cells k ≡ Some x)) → above keyed last k ≡ true → NextAbove keyed cells last r
      by None p l u a = absurd (none-some u.0 (sym (place_none keyed cells k p) ∙ u.1))
      by (Some i) p l u a =
          let h : keyed.key u.0 ≡ k = under_key keyed cells k u.0 u.1 in
          record {
            found = u.0;
            cell = place_at keyed cells k i None (sym p) ∙ u.1;
            stands = subst (λ z. place_of keyed cells z ≡ Some i) (sym h) (sym p);
            over = subst (λ z. above keyed last z ≡ true) (sym h) a;
            least = λ q b c. gone cells q (λ x v. both_ways _ (l.least q (stand_keys last cells q x v b)) (subst (λ z. keyed.before q z ≡ true) h c));
          }

  -- a record whose key is above the last one has the key that was found, or one above that
  pub next_rest : (cells : List (Option R)) (last : Option Key) (i : ℕ) → (n : HasNext keyed cells last i) → (k : Key) (r : R) → above keyed last k ≡ true → under keyed cells k ≡ Some r → (k ≡ keyed.key n.found) ⊎ (keyed.before (keyed.key n.found) k ≡ true)
  next_rest cells last i n k r a u = ⊎_elim
      (λ (t : keyed.before (keyed.key n.found) k ≡ true). inr t)
      (λ (f : keyed.before (keyed.key n.found) k ≡ false). ⊎_elim
      (λ (t : keyed.before k (keyed.key n.found) ≡ true). absurd (none-some r (sym (n.least k a t) ∙ u)))
      (λ (g : keyed.before k (keyed.key n.found) ≡ false). inl (keyed.connected k (keyed.key n.found) g f))
      (cases_Bool (keyed.before k (keyed.key n.found))))
      (cases_Bool (keyed.before (keyed.key n.found) k))

  -- above a key that is above the last one, no more is above than above the last one
  fewer_cell : (last : Option Key) (k x : Key) → above keyed last k ≡ true → cond (keyed.before k x) 1 0 ≤ cond (above keyed last x) 1 0
  fewer_cell None k x a = cond_both (keyed.before k x) 1 0 (λ n. n ≤ 1) (λ _. omega arith) (λ _. omega arith)
  fewer_cell (Some l) k x a = cond_both (keyed.before k x) 1 0 (λ n. n ≤ cond (keyed.before l x) 1 0) (λ t. rw (keyed.transitive l k x a t) (omega arith)) (λ _. omega arith)

  left_cons : (last : Option Key) (r : R) (cs : List (Option R)) → left_above keyed last (Some r ∷ cs) ≡ cond (above keyed last (keyed.key r)) 1 0 + left_above keyed last cs
  left_cons last r cs = ⊎_elim
      (λ (t : above keyed last (keyed.key r) ≡ true). rw t (omega arith))
      (λ (f : above keyed last (keyed.key r) ≡ false). rw f (omega arith))
      (cases_Bool (above keyed last (keyed.key r)))

  fewer_row : (last : Option Key) (k : Key) → above keyed last k ≡ true → (cells : List (Option R)) → left_above keyed (Some k) cells ≤ left_above keyed last cells
  fewer_row last k a [] = omega arith
  fewer_row last k a (None ∷ cs) = fewer_row last k a cs
  fewer_row last k a (Some r ∷ cs) = omega (arith, left_cons (Some k) r cs, left_cons last r cs, fewer_cell last k (keyed.key r) a, fewer_row last k a cs)

  fewer_at : (last : Option Key) (cells : List (Option R)) (i : ℕ) (r : R) → get_or cells i None ≡ Some r → above keyed last (keyed.key r) ≡ true → left_above keyed (Some (keyed.key r)) cells < left_above keyed last cells
  fewer_at last [] i r e a = absurd (none-some r e)
  fewer_at last (None ∷ cs) zero r e a = absurd (none-some r e)
  fewer_at last (Some x ∷ cs) zero r e a =
      let h : x ≡ r = cc in
      let old : ◌≡◌ {A = ℕ} (cond (above keyed last (keyed.key x)) 1 0) 1 = rw (h, a) in
      let new : ◌≡◌ {A = ℕ} (cond (keyed.before (keyed.key r) (keyed.key x)) 1 0) 0 = rw (h, keyed.irreflexive (keyed.key r)) in
      omega (arith, old, new, left_cons (Some (keyed.key r)) x cs, left_cons last x cs, fewer_row last (keyed.key r) a cs)
  fewer_at last (None ∷ cs) (suc i) r e a = fewer_at last cs i r e a
  fewer_at last (Some x ∷ cs) (suc i) r e a = omega (arith, left_cons (Some (keyed.key r)) x cs, left_cons last x cs, fewer_cell last (keyed.key r) (keyed.key x) a, fewer_at last cs i r e a)

  -- so a walk from key to key ends
  pub fewer_above : (cells : List (Option R)) (last : Option Key) (i : ℕ) → (n : HasNext keyed cells last i) → left_above keyed (Some (keyed.key n.found)) cells < left_above keyed last cells
  fewer_above cells last i n = fewer_at last cells i n.found n.cell n.over
