-- The eight cases hold.
use Rattle.std.proofs.Common.{◌≡◌, ℕ, cond, eqb, Some, None, refl, ap, ◌∙◌, ap₂, arith}
use Rattle.std.proofs.lemmas.Bool.{eq-eqb, le-ltb, lt-ltb, cond-true}
use Rattle.tally.specs.Vehicles.{same}
use Rattle.tally.specs.Queues.{band_is_last, band_of, up_to}
use Rattle.movements.specs.Sample.{sample}
use Rattle.protocol.specs.declared.records.Token.{Token}
use Rattle.handoff.specs.Node.{Node, View}
use Rattle.handoff.specs.Taking.{drop_dead, alive, deadline}
use Rattle.handoff.specs.Eight.{EightCases, Facing}

module _ {V : Type 0} (j k : ℕ) (shown : View V) (t : Token V) (n : Node V) (clock : ℕ) (facing : Facing j k shown t n clock) where
  judged : (drop_dead j shown n).tokens k j ≡ alive clock (Some t)
  unfolding drop_dead
  judged =
      cond-true (eqb j j) _ _ (eq-eqb j j refl) ∙ ap₂ (λ o c. alive (deadline shown o) c) facing.slotless facing.held ∙ ap (λ c. alive c (Some t)) facing.at

pub eight : (V : Type 0) → EightCases V
unfolding band_of up_to
eight V = record {
  queue_0 = band_is_last 0;
  queue_7 = band_is_last 7;
  queue_8 = band_is_last 8;
  queue_50 = band_is_last 50;
  full_stays = same _ _ refl;
  sixteen_keys = sample;
  stays = λ j k shown t n f. judged j k shown t n 3 f ∙ ap (λ b. cond b None (Some t)) (le-ltb t.destination_clock 3 (omega (arith, f.three)));
  dropped = λ j k shown t n f. judged j k shown t n 4 f ∙ ap (λ b. cond b None (Some t)) (lt-ltb t.destination_clock 4 (omega (arith, f.three)));
}
