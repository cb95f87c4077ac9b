-- Laws of rows of cells: what stands under each key after a change, and that keys stay apart.
use Rattle.std.proofs.Common.{◌≡◌, ℕ, zero, suc, Bool, true, false, ◌⊎◌, List, [], ◌∷◌, map, get_or, set, replicate, Some, None, Option, sym, refl, ap, ◌∙◌, subst, inl, inr, ⊎_elim, arith, MatchOption}
use Rattle.std.specs.List.{position}
use Rattle.std.specs.Option.{is_none, option_or}
use Rattle.std.proofs.lemmas.Option.{none-some}
use Rattle.std.proofs.lemmas.List.Quantifiers.{position-Some}
use Rattle.std.proofs.lemmas.Bool.{cases_Bool, false≢true}
use Rattle.table.specs.Cells.{Keyed, under, has, place_of, first_free, sought, Apart, Each, keep}
use Rattle.table.specs.Changes.{Free, Takes, Written, Emptied, Blank, write}
use Rattle.table.proofs.First.{first_cases, first_gone}

-- the first free place is free
pub free_is : {R : Type 0} (cells : List (Option R)) (i : ℕ) → first_free cells ≡ Some i → Free cells i
free_is cells i e = let h = position-Some is_none cells i None e in (h.0, emptied (get_or cells i None) h.1)
  where
    emptied : {R : Type 0} (c : Option R) → is_none c ≡ true → c ≡ None
    emptied None h = refl
    emptied (Some r) h = absurd (false≢true h)

module _ {R Key : Type 0} (keyed : Keyed R Key) where
  pub alike_same : (k : Key) → keyed.alike k k ≡ true
  alike_same k = (keyed.decides k k).1 refl

  pub alike_is : (a b : Key) → keyed.alike a b ≡ true → a ≡ b
  alike_is a b = (keyed.decides a b).0

  pub cases_key : (a b : Key) → (a ≡ b) ⊎ (keyed.alike a b ≡ false)
  cases_key a b = ⊎_elim (λ (t : keyed.alike a b ≡ true). inl (alike_is a b t)) (λ (f : keyed.alike a b ≡ false). inr f) (cases_Bool (keyed.alike a b))

  pub alike_off : (a b : Key) → (a ≡ b → ⊥) → keyed.alike a b ≡ false
  alike_off a b d = ⊎_elim (λ (t : keyed.alike a b ≡ true). absurd (d (alike_is a b t))) (λ (f : keyed.alike a b ≡ false). f) (cases_Bool (keyed.alike a b))

  pub write_here : {A : Type 0} (f : Key → A) (k : Key) (a : A) → write keyed f k a k ≡ a
  unfolding write
  write_here f k a = rw (alike_same k)

  pub write_off : {A : Type 0} (f : Key → A) (k : Key) (a : A) (q : Key) → keyed.alike q k ≡ false → write keyed f k a q ≡ f q
  unfolding write
  write_off f k a q d = rw d

  pub under_nil : (k : Key) → under keyed [] k ≡ None
  unfolding under
  under_nil k = refl

  -- the head holds another key
  pub under_past : (c : Option R) (cs : List (Option R)) (k : Key) → has keyed k c ≡ false → under keyed (c ∷ cs) k ≡ under keyed cs k
  unfolding under
  under_past None cs k f = refl
  under_past (Some r) cs k f = rw f

  pub under_here : (r : R) (cs : List (Option R)) (k : Key) → keyed.alike k (keyed.key r) ≡ true → under keyed (Some r ∷ cs) k ≡ Some r
  unfolding under
  under_here r cs k t = rw t

  -- a key without a place has no record, and one with a place has one
  pub place_none : (cells : List (Option R)) (k : Key) → None ≡ place_of keyed cells k → under keyed cells k ≡ None
  unfolding under
  place_none [] k e = refl
  place_none (None ∷ cs) k e = place_none cs k (sym (first_gone (has keyed k) None cs (sym e)).1)
  place_none (Some r ∷ cs) k e = let h = first_gone (has keyed k) (Some r) cs (sym e) in rw h.0 (place_none cs k (sym h.1))

  over_head : (c : Option R) (cs : List (Option R)) (r : R) → has keyed (keyed.key r) c ≡ true → (q : Key) → under keyed (Some r ∷ cs) q ≡ write keyed (under keyed (c ∷ cs)) (keyed.key r) (Some r) q
  over_head None cs r h q = absurd (false≢true h)
  over_head (Some x) cs r h q = ⊎_elim
      (λ (e : q ≡ keyed.key r). rw e (under_here r cs (keyed.key r) (alike_same (keyed.key r)) ∙ sym (write_here (under keyed (Some x ∷ cs)) (keyed.key r) (Some r))))
      (λ (f : keyed.alike q (keyed.key r) ≡ false). under_past (Some r) cs q f ∙ sym (write_off (under keyed (Some x ∷ cs)) (keyed.key r) (Some r) q f ∙ under_past (Some x) cs q (subst (λ z. keyed.alike q z ≡ false) (alike_is (keyed.key r) (keyed.key x) h) f)))
      (cases_key q (keyed.key r))

  -- a write further on, where the head has another key
  past_head : (c : Option R) (cs ds : List (Option R)) (k : Key) (a : Option R) → has keyed k c ≡ false → ((q : Key) → under keyed ds q ≡ write keyed (under keyed cs) k a q) → (q : Key) → under keyed (c ∷ ds) q ≡ write keyed (under keyed (c ∷ cs)) k a q
  unfolding under write
  past_head None cs ds k a h ih q = ih q
  past_head (Some x) cs ds k a h ih q = ⊎_elim
      (λ (e : q ≡ k). rw (e, h) (rw e at (ih q)))
      (λ (f : keyed.alike q k ≡ false). rw (f, rw f at (ih q)))
      (cases_key q k)

  pub place_some : (cells : List (Option R)) (k : Key) (i : ℕ) → place_of keyed cells k ≡ Some i → (r : R) × (under keyed cells k ≡ Some r)
  place_some [] k i e = absurd (none-some i e)
  place_some (None ∷ cs) k i e = ⊎_elim
      (λ (h : (false ≡ true) × (i ≡ 0)). absurd (false≢true h.0))
      (λ (h : (false ≡ false) × ((j : ℕ) × (position (has keyed k) cs ≡ Some j) × (i ≡ suc j))). let r = place_some cs k h.1.0 h.1.1 in (r.0, under_past None cs k refl ∙ r.1))
      (first_cases (has keyed k) None cs i e)
  place_some (Some x ∷ cs) k i e = ⊎_elim
      (λ (h : (has keyed k (Some x) ≡ true) × (i ≡ 0)). (x, under_here x cs k h.0))
      (λ (h : (has keyed k (Some x) ≡ false) × ((j : ℕ) × (position (has keyed k) cs ≡ Some j) × (i ≡ suc j))). let r = place_some cs k h.1.0 h.1.1 in (r.0, under_past (Some x) cs k h.0 ∙ r.1))
      (first_cases (has keyed k) (Some x) cs i e)

  -- a record over the first cell with its key
  pub write_over : (cells : List (Option R)) (i : ℕ) (r : R) → place_of keyed cells (keyed.key r) ≡ Some i → (q : Key) → under keyed (set cells i (Some r)) q ≡ write keyed (under keyed cells) (keyed.key r) (Some r) q
  write_over [] i r e q = absurd (none-some i e)
  write_over (c ∷ cs) i r e q = ⊎_elim
      (λ (h : (has keyed (keyed.key r) c ≡ true) × (i ≡ 0)). rw h.1 (over_head c cs r h.0 q))
      (λ (h : (has keyed (keyed.key r) c ≡ false) × ((j : ℕ) × (position (has keyed (keyed.key r)) cs ≡ Some j) × (i ≡ suc j))). rw h.1.2 (past_head c cs (set cs h.1.0 (Some r)) (keyed.key r) (Some r) h.0 (write_over cs h.1.0 r h.1.1) q))
      (first_cases (has keyed (keyed.key r)) c cs i e)

  pub other_key : (x : R) (cs : List (Option R)) (k : Key) → under keyed (Some x ∷ cs) k ≡ None → (keyed.alike k (keyed.key x) ≡ false) × (under keyed cs k ≡ None)
  unfolding under
  other_key x cs k n = ⊎_elim
      (λ (t : keyed.alike k (keyed.key x) ≡ true). absurd (none-some x (sym n ∙ rw t)))
      (λ (f : keyed.alike k (keyed.key x) ≡ false). (f, rw f at n))
      (cases_Bool (keyed.alike k (keyed.key x)))

  none_head : (x : R) (cs : List (Option R)) (k : Key) → k ≡ keyed.key x → under keyed cs (keyed.key x) ≡ None → (q : Key) → under keyed (None ∷ cs) q ≡ write keyed (under keyed (Some x ∷ cs)) k None q
  unfolding under write
  none_head x cs k e n q = ⊎_elim
      (λ (f : q ≡ k). let h : q ≡ keyed.key x = f ∙ e in rw (ap (under keyed cs) h ∙ n, f, alike_same k))
      (λ (f : keyed.alike q k ≡ false). let h : keyed.alike q (keyed.key x) ≡ false = subst (λ z. keyed.alike q z ≡ false) e f in rw (f, h))
      (cases_key q k)

  -- a record in a free cell, where its key stands nowhere
  pub write_free : (cells : List (Option R)) (i : ℕ) (r : R) → Free cells i → under keyed cells (keyed.key r) ≡ None → (q : Key) → under keyed (set cells i (Some r)) q ≡ write keyed (under keyed cells) (keyed.key r) (Some r) q
  unfolding under write
  write_free [] i r h n q = absurd (omega arith)
  write_free (None ∷ cs) zero r h n q = refl
  write_free (Some x ∷ cs) zero r h n q = absurd (none-some x (sym h.1))
  write_free (None ∷ cs) (suc i) r h n q = write_free cs i r (omega (arith, h.0), h.1) n q
  write_free (Some x ∷ cs) (suc i) r h n q =
      let f = other_key x cs (keyed.key r) n in
      past_head (Some x) cs (set cs i (Some r)) (keyed.key r) (Some r) f.0 (write_free cs i r (omega (arith, h.0), h.1) f.1) q

  -- the first cell with a key emptied, where keys are apart
  pub write_none : (cells : List (Option R)) (i : ℕ) (k : Key) → Apart keyed cells → place_of keyed cells k ≡ Some i → (q : Key) → under keyed (set cells i None) q ≡ write keyed (under keyed cells) k None q
  write_none [] i k a e q = absurd (none-some i e)
  write_none (None ∷ cs) i k a e q = ⊎_elim
      (λ (h : (false ≡ true) × (i ≡ 0)). absurd (false≢true h.0))
      (λ (h : (false ≡ false) × ((j : ℕ) × (position (has keyed k) cs ≡ Some j) × (i ≡ suc j))). rw h.1.2 (past_head None cs (set cs h.1.0 None) k None refl (write_none cs h.1.0 k a h.1.1) q))
      (first_cases (has keyed k) None cs i e)
  write_none (Some x ∷ cs) i k a e q = ⊎_elim
      (λ (h : (has keyed k (Some x) ≡ true) × (i ≡ 0)). rw h.1 (none_head x cs k (alike_is k (keyed.key x) h.0) a.0 q))
      (λ (h : (has keyed k (Some x) ≡ false) × ((j : ℕ) × (position (has keyed k) cs ≡ Some j) × (i ≡ suc j))). rw h.1.2 (past_head (Some x) cs (set cs h.1.0 None) k None h.0 (write_none cs h.1.0 k a.1 h.1.1) q))
      (first_cases (has keyed k) (Some x) cs i e)

  pub under_key : (cells : List (Option R)) (k : Key) (r : R) → under keyed cells k ≡ Some r → keyed.key r ≡ k
  unfolding under
  under_key [] k r e = absurd (none-some r e)
  under_key (None ∷ cs) k r e = under_key cs k r e
  under_key (Some x ∷ cs) k r e = ⊎_elim
      (λ (t : keyed.alike k (keyed.key x) ≡ true). let h : Some x ≡ Some r = rw t at e in let f : x ≡ r = cc in sym (alike_is k (keyed.key x) t ∙ ap keyed.key f))
      (λ (f : keyed.alike k (keyed.key x) ≡ false). under_key cs k r (rw f at e))
      (cases_Bool (keyed.alike k (keyed.key x)))

  under_keep_none : (p : R → Bool) (cs : List (Option R)) (k : Key) → under keyed cs k ≡ None → under keyed (map (keep p) cs) k ≡ None
  unfolding under
  under_keep_none p [] k n = refl
  under_keep_none p (None ∷ cs) k n = under_keep_none p cs k n
  under_keep_none p (Some x ∷ cs) k n =
      let f = other_key x cs k n in
      let ih = under_keep_none p cs k f.1 in
      ⊎_elim
      (λ (t : p x ≡ true). rw (t, f.0) ih)
      (λ (g : p x ≡ false). rw g ih)
      (cases_Bool (p x))

  -- a filter of the cells filters what stands under each key, where keys are apart
  pub under_keep : (p : R → Bool) (cells : List (Option R)) → Apart keyed cells → (k : Key) → under keyed (map (keep p) cells) k ≡ keep p (under keyed cells k)
  unfolding under
  under_keep p [] a k = refl
  under_keep p (None ∷ cs) a k = under_keep p cs a k
  under_keep p (Some x ∷ cs) a k = ⊎_elim
      (λ (t : p x ≡ true). ⊎_elim
      (λ (h : keyed.alike k (keyed.key x) ≡ true). rw (t, h, t))
      (λ (h : keyed.alike k (keyed.key x) ≡ false). rw (t, h) (under_keep p cs a.1 k))
      (cases_Bool (keyed.alike k (keyed.key x))))
      (λ (g : p x ≡ false). ⊎_elim
      (λ (h : keyed.alike k (keyed.key x) ≡ true). rw (g, h, g) (under_keep_none p cs k (ap (under keyed cs) (alike_is k (keyed.key x) h) ∙ a.0)))
      (λ (h : keyed.alike k (keyed.key x) ≡ false). rw (g, h) (under_keep p cs a.1 k))
      (cases_Bool (keyed.alike k (keyed.key x))))
      (cases_Bool (p x))

  pub apart_keep : (p : R → Bool) (cells : List (Option R)) → Apart keyed cells → Apart keyed (map (keep p) cells)
  apart_keep p [] a = tt
  apart_keep p (None ∷ cs) a = apart_keep p cs a
  apart_keep p (Some x ∷ cs) a = ⊎_elim
      (λ (t : p x ≡ true). rw t (under_keep_none p cs (keyed.key x) a.0, apart_keep p cs a.1))
      (λ (g : p x ≡ false). rw g (apart_keep p cs a.1))
      (cases_Bool (p x))

  pub each_keep : (P : R → Type 0) (p : R → Bool) (cells : List (Option R)) → Each P cells → Each P (map (keep p) cells)
  each_keep P p [] a = tt
  each_keep P p (None ∷ cs) a = each_keep P p cs a
  each_keep P p (Some x ∷ cs) a = ⊎_elim
      (λ (t : p x ≡ true). rw t (a.0, each_keep P p cs a.1))
      (λ (g : p x ≡ false). rw g (each_keep P p cs a.1))
      (cases_Bool (p x))

  pub each_set : (P : R → Type 0) (cells : List (Option R)) (i : ℕ) (r : R) → P r → Each P cells → Each P (set cells i (Some r))
  each_set P [] i r h a = tt
  each_set P (None ∷ cs) zero r h a = (h, a)
  each_set P (Some x ∷ cs) zero r h a = (h, a.1)
  each_set P (None ∷ cs) (suc i) r h a = each_set P cs i r h a
  each_set P (Some x ∷ cs) (suc i) r h a = (a.0, each_set P cs i r h a.1)

  pub each_none : (P : R → Type 0) (cells : List (Option R)) (i : ℕ) → Each P cells → Each P (set cells i None)
  each_none P [] i a = tt
  each_none P (None ∷ cs) zero a = a
  each_none P (Some x ∷ cs) zero a = a.1
  each_none P (None ∷ cs) (suc i) a = each_none P cs i a
  each_none P (Some x ∷ cs) (suc i) a = (a.0, each_none P cs i a.1)

  -- keys stay apart
  pub apart_free : (cells : List (Option R)) (i : ℕ) (r : R) → Free cells i → under keyed cells (keyed.key r) ≡ None → Apart keyed cells → Apart keyed (set cells i (Some r))
  unfolding under
  apart_free [] i r h n a = absurd (omega arith)
  apart_free (None ∷ cs) zero r h n a = (n, a)
  apart_free (Some x ∷ cs) zero r h n a = absurd (none-some x (sym h.1))
  apart_free (None ∷ cs) (suc i) r h n a = apart_free cs i r (omega (arith, h.0), h.1) n a
  apart_free (Some x ∷ cs) (suc i) r h n a =
      let f = other_key x cs (keyed.key r) n in
      let free : Free cs i = (omega (arith, h.0), h.1) in
      let d : keyed.alike (keyed.key x) (keyed.key r) ≡ false = alike_off (keyed.key x) (keyed.key r) (λ s. false≢true (sym f.0 ∙ (keyed.decides (keyed.key r) (keyed.key x)).1 (sym s))) in
      (write_free cs i r free f.1 (keyed.key x) ∙ write_off (under keyed cs) (keyed.key r) (Some r) (keyed.key x) d ∙ a.0, apart_free cs i r free f.1 a.1)

  -- what the place of a key holds
  pub place_at : (cells : List (Option R)) (k : Key) (i : ℕ) (d : Option R) → place_of keyed cells k ≡ Some i → get_or cells i d ≡ under keyed cells k
  place_at [] k i d e = absurd (none-some i e)
  place_at (c ∷ cs) k i d e = ⊎_elim
      (λ (h : (has keyed k c ≡ true) × (i ≡ 0)). rw h.1 (at_head c cs k h.0))
      (λ (h : (has keyed k c ≡ false) × ((j : ℕ) × (position (has keyed k) cs ≡ Some j) × (i ≡ suc j))). rw h.1.2 (place_at cs k h.1.0 d h.1.1 ∙ sym (under_past c cs k h.0)))
      (first_cases (has keyed k) c cs i e)
    where
      at_head : (c : Option R) (cs : List (Option R)) (k : Key) → has keyed k c ≡ true → c ≡ under keyed (c ∷ cs) k
      at_head None cs k h = absurd (false≢true h)
      at_head (Some x) cs k h = sym (under_here x cs k h)

  pub apart_over : (cells : List (Option R)) (i : ℕ) (r : R) → place_of keyed cells (keyed.key r) ≡ Some i → Apart keyed cells → Apart keyed (set cells i (Some r))
  apart_over [] i r e a = absurd (none-some i e)
  apart_over (None ∷ cs) i r e a = ⊎_elim
      (λ (h : (false ≡ true) × (i ≡ 0)). absurd (false≢true h.0))
      (λ (h : (false ≡ false) × ((j : ℕ) × (position (has keyed (keyed.key r)) cs ≡ Some j) × (i ≡ suc j))). rw h.1.2 (apart_over cs h.1.0 r h.1.1 a))
      (first_cases (has keyed (keyed.key r)) None cs i e)
  apart_over (Some x ∷ cs) i r e a = ⊎_elim
      (λ (h : (has keyed (keyed.key r) (Some x) ≡ true) × (i ≡ 0)). rw h.1 (ap (under keyed cs) (alike_is (keyed.key r) (keyed.key x) h.0) ∙ a.0, a.1))
      (λ (h : (has keyed (keyed.key r) (Some x) ≡ false) × ((j : ℕ) × (position (has keyed (keyed.key r)) cs ≡ Some j) × (i ≡ suc j))).
      let d : keyed.alike (keyed.key x) (keyed.key r) ≡ false = alike_off (keyed.key x) (keyed.key r) (λ s. false≢true (sym h.0 ∙ (keyed.decides (keyed.key r) (keyed.key x)).1 (sym s))) in
      rw h.1.2 (write_over cs h.1.0 r h.1.1 (keyed.key x) ∙ write_off (under keyed cs) (keyed.key r) (Some r) (keyed.key x) d ∙ a.0, apart_over cs h.1.0 r h.1.1 a.1))
      (first_cases (has keyed (keyed.key r)) (Some x) cs i e)

  -- an emptied cell leaves every key where it stood, or nothing
  under_none : (cells : List (Option R)) (i : ℕ) (k : Key) → under keyed cells k ≡ None → under keyed (set cells i None) k ≡ None
  unfolding under
  under_none [] i k n = refl
  under_none (None ∷ cs) zero k n = n
  under_none (Some x ∷ cs) zero k n = (other_key x cs k n).1
  under_none (None ∷ cs) (suc i) k n = under_none cs i k n
  under_none (Some x ∷ cs) (suc i) k n = let f = other_key x cs k n in rw f.0 (under_none cs i k f.1)

  pub apart_none : (cells : List (Option R)) (i : ℕ) → Apart keyed cells → Apart keyed (set cells i None)
  apart_none [] i a = tt
  apart_none (None ∷ cs) zero a = a
  apart_none (Some x ∷ cs) zero a = a.1
  apart_none (None ∷ cs) (suc i) a = apart_none cs i a
  apart_none (Some x ∷ cs) (suc i) a = (under_none cs i (keyed.key x) a.0, apart_none cs i a.1)

  -- one equation for every key gives what is here and what the others have
  written_by : (old new : List (Option R)) (k : Key) (held : Option R) → ((q : Key) → under keyed new q ≡ write keyed (under keyed old) k held q) → (Apart keyed old → Apart keyed new) → Written keyed old new k held
  written_by old new k held e a = record {
    here = e k ∙ write_here (under keyed old) k held;
    others = λ q d. e q ∙ write_off (under keyed old) k held q (alike_off q k d);
    apart = a;
  }

  -- and the other way
  pub written_as : (old new : List (Option R)) (k : Key) (held : Option R) → Written keyed old new k held → (q : Key) → under keyed new q ≡ write keyed (under keyed old) k held q
  written_as old new k held w q = ⊎_elim
      (λ (e : q ≡ k). rw e (w.here ∙ sym (write_here (under keyed old) k held)))
      (λ (f : keyed.alike q k ≡ false). w.others q (λ e. false≢true (sym f ∙ (keyed.decides q k).1 e)) ∙ sym (write_off (under keyed old) k held q f))
      (cases_key q k)

  -- what a store leaves
  pub stored : (cells : List (Option R)) (i : ℕ) (r : R) → Takes keyed cells (keyed.key r) i → Written keyed cells (set cells i (Some r)) (keyed.key r) (Some r)
  stored cells i r = ⊎_elim
      (λ (e : place_of keyed cells (keyed.key r) ≡ Some i). written_by cells (set cells i (Some r)) (keyed.key r) (Some r) (write_over cells i r e) (apart_over cells i r e))
      (λ (h : (under keyed cells (keyed.key r) ≡ None) × Free cells i). written_by cells (set cells i (Some r)) (keyed.key r) (Some r) (write_free cells i r h.1 h.0) (apart_free cells i r h.1 h.0))

  -- what a removal leaves
  pub emptied : (cells : List (Option R)) (i : ℕ) → Emptied keyed cells (set cells i None) i
  emptied cells i k a e = written_by cells (set cells i None) k None (write_none cells i k a e) (apart_none cells i)

  -- what a search for the key's place or a free one gives
  pub sought_takes : (cells : List (Option R)) (k : Key) (i : ℕ) → sought keyed cells k ≡ Some i → Takes keyed cells k i
  sought_takes cells k i = by (place_of keyed cells k) refl
    where
      by : (found : Option ℕ) → place_of keyed cells k ≡ found → option_or found (first_free cells) ≡ Some i → Takes keyed cells k i
      by None e s = inr (place_none cells k (sym e), free_is cells i s)
      by (Some j) e s = inl (e ∙ s)

  -- and where it gives none, there is neither
  pub sought_cases : (cells : List (Option R)) (k : Key) (r : Option ℕ) → r ≡ sought keyed cells k → MatchOption r ((place_of keyed cells k ≡ None) × (first_free cells ≡ None)) (Takes keyed cells k)
  sought_cases cells k (Some i) e = sought_takes cells k i (sym e)
  sought_cases cells k None e = by (place_of keyed cells k) refl (sym e)
    where
      by : (found : Option ℕ) → place_of keyed cells k ≡ found → option_or found (first_free cells) ≡ None → (place_of keyed cells k ≡ None) × (first_free cells ≡ None)
      by None p s = (p, s)
      by (Some j) p s = absurd (none-some j (sym s))

  -- where the key has no place, a free one takes it
  pub free_takes : (cells : List (Option R)) (k : Key) (r : Option ℕ) → None ≡ place_of keyed cells k → r ≡ first_free cells → MatchOption r ((place_of keyed cells k ≡ None) × (first_free cells ≡ None)) (Takes keyed cells k)
  free_takes cells k None p e = (sym p, sym e)
  free_takes cells k (Some i) p e = inr (place_none cells k p, free_is cells i (sym e))

  -- nothing stands in cleared cells
  pub blank : (n : ℕ) → Blank keyed (replicate n None)
  blank n = record { none = under_cleared n; apart = apart_cleared n }
    where
      under_cleared : (n : ℕ) (k : Key) → under keyed (replicate n None) k ≡ None
      under_cleared zero k = under_nil k
      under_cleared (suc n) k = under_past None (replicate n None) k refl ∙ under_cleared n k

      apart_cleared : (n : ℕ) → Apart keyed (replicate n None)
      apart_cleared zero = tt
      apart_cleared (suc n) = apart_cleared n
