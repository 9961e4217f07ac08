use Rattle.m7.proofs.Results.{octets_given}
use Rattle.m7.proofs.FeedResults.{refused_first, lent, is_small, is_fed}
use Rattle.m7.proofs.feed.m7_feed.Goals as goal

pub returns-in-Some : goal.returns-in-Some
returns-in-Some c =
    let a = c.args in
    let ot = octets_given a.table.now c.slice_known-1.given in
    let ob = octets_given a.state.now c.slice_known-2-1.given in
    refused_first _ _ ot ob c.in-Some.ensures c.refusal.ensures

pub feed-fed-requires : goal.feed-fed-requires
feed-fed-requires c =
    let a = c.args in
    let ot = octets_given a.table.now c.slice_known-1.given in
    let ob = octets_given a.state.now c.slice_known-2-1.given in
    lent (record { line = a.line.now; budget = a.budget }) _ ot ob c.in_default.ensures

pub answer_of-requires : goal.answer_of-requires
answer_of-requires c =
    let a = c.args in
    let ot = octets_given a.table.now c.slice_known-1.given in
    let ob = octets_given a.state.now c.slice_known-2-1.given in
    let ol = octets_given a.line.now c.shared_slice_known-1.given in
    is_small _ _ ot ob c.in_default.ensures c.feed-fed.ensures ol

pub returns : goal.returns
returns c =
    let a = c.args in
    let ot = octets_given a.table.now c.slice_known-1.given in
    let ob = octets_given a.state.now c.slice_known-2-1.given in
    is_fed _ _ ot ob c.in_default.ensures c.feed-fed.ensures c.answer_of.ensures
