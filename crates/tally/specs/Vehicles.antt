-- The kind `vehicles`: one count, whose join adds and stops at 2 ^ 64 - 1.
use Rattle.std.specs.Prelude.{◌≡◌, ℕ, ◌+◌, ◌-◌, ◌^◌, ◌<◌, min, [], Ok, ◌==◌, refl}
use Rattle.std.proofs.Common.{ap, ◌∙◌, arith, lit<, lit≤}
use mathlib.Core.HLevel.{is_prop→PathP}
use Rattle.std.proofs.Math.Bridge.{le_prop}
use Rattle.std.proofs.lemmas.Bool.{eqb-true}
use Rattle.std.proofs.lemmas.List.{take_all}
use Rattle.big_endian.specs.BigEndian.{eight, eight_bytes, octets_eight, eight_small, eight_of_bytes, bytes_of_eight}
use Rattle.tally.specs.Kind.{Kind, Lawful}
use Rattle.tally.specs.declared.vehicles.counted.Vehicles.{Vehicles}

-- so many vehicles; the count stops at the largest that fits
abbrev pub counted : ℕ → Vehicles
counted n = record { count = min n (2 ^ 64 - 1); fits = omega arith }

abbrev pub vehicles : Kind Vehicles
vehicles = record {
  code = 1;
  empty = counted 0;
  join = λ x y. counted (x.count + y.count);
  is_empty = λ x. (x.count == 0);
  width = 8;
  bytes = λ x. eight_bytes x.count;
  read = λ bytes. Ok (counted (eight bytes 0));
}

pub same : (x y : Vehicles) → x.count ≡ y.count → x ≡ y
same x y e = λ i. record { count = e i; fits = is_prop→PathP (λ j. e j < 2 ^ 64) (λ j. le_prop) x.fits y.fits i }

pub vehicles_lawful : Lawful vehicles
vehicles_lawful = record {
  code_byte = lit< tt;
  assoc = λ x y z. same _ _ (omega arith);
  comm = λ x y. same _ _ (omega arith);
  unit = λ x. same _ _ (omega (arith, x.fits));
  both_empty = λ x y e. let h = ap (λ v. v.count) e in (same _ _ (omega (arith, h)), same _ _ (omega (arith, h)));
  empty_found = refl;
  only_empty = λ x e. same _ _ (eqb-true _ _ e);
  width_min = lit≤ tt;
  width_max = lit≤ tt;
  written = λ x. refl;
  octets = λ x. octets_eight x.count;
  reads_back = λ x. ap Ok (same _ _ (omega (arith, eight_of_bytes x.count [] x.fits, x.fits)));
  reads_only = λ bytes l o x e.
      let h : counted (eight bytes 0) ≡ x = cc in
      let n = ap (λ v. v.count) h in
      let m : x.count ≡ eight bytes 0 = omega (arith, eight_small bytes 0 o, n) in
      ap eight_bytes m ∙ bytes_of_eight bytes 0 (omega arith) o ∙ take_all 8 bytes (omega arith);
  fault_within = λ bytes l f e. let z : ◌≡◌ {A = ℕ} 0 1 = cc in absurd (omega arith);
}
