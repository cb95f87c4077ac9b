use Rattle.std.proofs.Common.{rules}
use Rattle.frame.specs.Frames.{opening_fault, parties_fault, state_fault, counts_fault, header_fault}
use Rattle.frame_items.proofs.Walking.{by_first, by_second, by_third, by_last}
use Rattle.frame.proofs.Front.{parties_alike, state_alike, counted_alike}
use Rattle.frame.proofs.header.check_header.Goals as goal

pub returns-in_err-header : goal.returns-in_err-header
unfolding header_fault
returns-in_err-header g c = let b = c.args.bytes.now in by_first (opening_fault g.K.Tally.kind b) (parties_fault b) (state_fault b) (counts_fault g.K.Tally.kind b) _ c.in_err-header.field-0.0 (search rules) c.in_err-header.ensures.fault

pub returns-in_err-check_parties : goal.returns-in_err-check_parties
unfolding header_fault
returns-in_err-check_parties g c =
    let b = c.args.bytes.now in
    by_second (opening_fault g.K.Tally.kind b) (parties_fault b) (state_fault b) (counts_fault g.K.Tally.kind b) _ c.in_err-check_parties.field-0.0 (search rules) c.in_ok-header.ensures.fault
    (parties_alike _ b c.in_ok-header.ensures.header _ c.in_err-check_parties.ensures)

pub returns-in_err-check_state : goal.returns-in_err-check_state
unfolding header_fault
returns-in_err-check_state g c =
    let b = c.args.bytes.now in
    by_third (opening_fault g.K.Tally.kind b) (parties_fault b) (state_fault b) (counts_fault g.K.Tally.kind b) _ c.in_err-check_state.field-0.0 (search rules) c.in_ok-header.ensures.fault
    (parties_alike _ b c.in_ok-header.ensures.header _ c.in_ok-check_parties.ensures) (state_alike _ b c.in_ok-header.ensures.header _ c.in_err-check_state.ensures)

pub returns : goal.returns
unfolding header_fault
returns g c =
    let b = c.args.bytes.now in
    let front = c.in_ok-header.ensures.header in
    by_last (opening_fault g.K.Tally.kind b) (parties_fault b) (state_fault b) (counts_fault g.K.Tally.kind b) _ c.in_ok-header.ensures.fault (parties_alike _ b front _ c.in_ok-check_parties.ensures)
    (state_alike _ b front _ c.in_ok-check_state.ensures) (counted_alike _ b front _ g.K.Tally.kind _ c.check_counts.ensures)
