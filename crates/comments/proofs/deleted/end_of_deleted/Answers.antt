-- What is left to show of `end_of_deleted`.
use Rattle.std.proofs.Common.{◌+◌, length, rules}
use Rattle.mmtext.specs.Views.{seen}
use Rattle.comments.specs.Outside.{tokens_at}
use Rattle.comments.specs.Insides.{labels_in}
use Rattle.comments.proofs.BlocksRead.{starts_inside, inside_more, block_ends}
use Rattle.comments.proofs.deleted.end_of_deleted.Goals as goal

pub loop-token-init : goal.loop-token-init
loop-token-init c =
    let gone = labels_in c.args.gone.now in record {
      within = c.requires;
      read = starts_inside gone (tokens_at c.args.text.now c.args.from) c.new-inside.result (c.new-inside.ensures gone);
    }

pub loop-token-preserved : goal.loop-token-preserved
loop-token-preserved c =
    let gone = labels_in c.args.gone.now in
    let text = c.args.text.now in
    let from = c.args.from in
    let at = c.loop-token.at in
    let t = seen c.in-Some.token in
    let end = t.place + length t.text in record {
      within = c.in-Some.ensures.within;
      read =
          inside_more gone (tokens_at text from) (tokens_at text at) (tokens_at text end)
          c.loop-token.inside t c.loop-token.invariant.read c.in-Some.ensures.next c.take.new.self (c.take.ensures (search rules));
    }

pub returns-then-is_ended_by : goal.returns-then-is_ended_by
returns-then-is_ended_by c =
    let gone = labels_in c.args.gone.now in
    let text = c.args.text.now in
    let from = c.args.from in
    let at = c.loop-token.at in
    let t = seen c.in-Some.token in
    let end = t.place + length t.text in
    let e = c.is_ended_by.ensures (search rules) in
    block_ends gone (tokens_at text from) (tokens_at text at) (tokens_at text end) c.loop-token.inside t
    c.loop-token.invariant.read c.in-Some.ensures.next e.closes e.depth e.found
