-- Tables with one place written, sums that change at one place, and steps for each number.
use Rattle.std.proofs.Common.{◌≡◌, ℕ, zero, suc, ◌+◌, ◌<◌, ◌≤◌, true, ◌⊎◌, Some, None, Option, sym, refl, ap₂, inl, inr, ⊎_elim, arith}
use mathlib.Core.Path.{fun_ext}
use Rattle.std.proofs.lemmas.Bool.{cases_eq, eq-eqb, ne_eqb}
use Rattle.std.proofs.lemmas.Bool.Decides.{nat_tests}
use Rattle.handoff.specs.Node.{put, put_pair, sum, each, is_none}

pub put_here : {A : Type 0} (f : ℕ → A) (k : ℕ) (a : A) → put f k a k ≡ a
unfolding put
put_here f k a = rw (eq-eqb k k refl)

pub put_off : {A : Type 0} (f : ℕ → A) (k : ℕ) (a : A) (q : ℕ) → (q ≡ k → ⊥) → put f k a q ≡ f q
unfolding put
put_off f k a q h = rw (ne_eqb q k h)

pub put_same : {A : Type 0} (f : ℕ → A) (k : ℕ) → put f k (f k) ≡ f
put_same f k = fun_ext (λ q. ⊎_elim (λ (e : q ≡ k). rw e (put_here f k (f k))) (λ h. put_off f k (f k) q h) (cases_eq q k))

pub pair_here : {A : Type 0} (f : ℕ → ℕ → A) (k l : ℕ) (a : A) → put_pair f k l a k l ≡ a
unfolding put_pair
pair_here f k l a = rw (eq-eqb k k refl, eq-eqb l l refl)

pub pair_off : {A : Type 0} (f : ℕ → ℕ → A) (k l : ℕ) (a : A) (x y : ℕ) → (((x ≡ k) × (y ≡ l)) → ⊥) → put_pair f k l a x y ≡ f x y
unfolding put_pair
pair_off f k l a x y h = grind (arith, nat_tests)

pub sum_same : (f g : ℕ → ℕ) (n : ℕ) → ((q : ℕ) → g q ≡ f q) → sum g n ≡ sum f n
unfolding sum
sum_same f g zero h = refl
sum_same f g (suc n) h = ap₂ ◌+◌ (sum_same f g n h) (h (suc n))

sum_off : (f g : ℕ → ℕ) (a n : ℕ) → n < a → ((q : ℕ) → (q ≡ a → ⊥) → g q ≡ f q) → sum g n ≡ sum f n
unfolding sum
sum_off f g a zero l h = refl
sum_off f g a (suc n) l h = ap₂ ◌+◌ (sum_off f g a n (omega arith) h) (h (suc n) (λ e. omega arith))

pub sum_move : (f g : ℕ → ℕ) (a n : ℕ) → 1 ≤ a → a ≤ n → ((q : ℕ) → (q ≡ a → ⊥) → g q ≡ f q) → sum g n + f a ≡ sum f n + g a
unfolding sum
sum_move f g a zero l u h = absurd (omega arith)
sum_move f g a (suc n) l u h = ⊎_elim
    (λ (e : a ≡ suc n). let s = sum_off f g a n (omega arith) h in rw e (omega arith))
    (λ (e : a ≡ suc n → ⊥). let s = sum_move f g a n l (omega arith) h in let t = h (suc n) (λ x. e (sym x)) in omega arith)
    (cases_eq a (suc n))

pub sums_move : (f g : ℕ → ℕ → ℕ) (a b n : ℕ) → 1 ≤ a → a ≤ n → 1 ≤ b → b ≤ n → ((x y : ℕ) → (((x ≡ a) × (y ≡ b)) → ⊥) → g x y ≡ f x y) → sum (λ x. sum (g x) n) n + f a b ≡ sum (λ x. sum (f x) n) n + g a b
sums_move f g a b n la ua lb ub h =
    let outer = sum_move (λ x. sum (f x) n) (λ x. sum (g x) n) a n la ua (λ x d. sum_same (f x) (g x) n (λ y. h x y (λ e. d e.0))) in
    let inner = sum_move (f a) (g a) b n lb ub (λ y d. h a y (λ e. d e.1)) in
    omega arith

pub cases_option : {A : Type 0} (o : Option A) → (o ≡ None) ⊎ ((a : A) × (o ≡ Some a))
cases_option None = inl refl
cases_option (Some a) = inr (a, refl)

pub none_some : {A : Type 0} (o : Option A) (a : A) → o ≡ None → o ≡ Some a → ⊥
none_some o a x y = let z : ◌≡◌ {A = ℕ} 0 1 = cc in absurd (omega arith)

pub some_inj : {A : Type 0} (o : Option A) (a b : A) → o ≡ Some a → o ≡ Some b → a ≡ b
some_inj o a b x y = cc

pub cases_pair : (x y k l : ℕ) → ((x ≡ k) × (y ≡ l)) ⊎ (((x ≡ k) × (y ≡ l)) → ⊥)
cases_pair x y k l = ⊎_elim
    (λ (e : x ≡ k). ⊎_elim (λ (f : y ≡ l). inl (e, f)) (λ (h : y ≡ l → ⊥). inr (λ q. h q.1)) (cases_eq y l))
    (λ (h : x ≡ k → ⊥). inr (λ q. h q.0))
    (cases_eq x k)

pub sum_zero : (f : ℕ → ℕ) (n : ℕ) → ((q : ℕ) → f q ≡ 0) → sum f n ≡ 0
unfolding sum
sum_zero f zero h = refl
sum_zero f (suc n) h = let a = sum_zero f n h in let b = h (suc n) in omega arith

pub each_holds : {A : Type 0} (G : A → Type 0) (f : ℕ → A → A) (q : ℕ) → ((k : ℕ) (a : A) → 1 ≤ k → k ≤ q → G a → G (f k a)) → (a : A) → G a → G (each f q a)
unfolding each
each_holds G f zero h a g = g
each_holds G f (suc q) h a g = h (suc q) (each f q a) (omega arith) (omega arith) (each_holds G f q (λ k b l u. h k b l (omega arith)) a g)

pub none_from : {A : Type 0} (o : Option A) → is_none o ≡ true → o ≡ None
none_from None e = refl
none_from (Some a) e = let z : ◌≡◌ {A = ℕ} 0 1 = cc in absurd (omega arith)
