-- What is left to show of `write_taken`.
use Rattle.taketext.proofs.Whole.{whole_text}
use Rattle.taketext.proofs.answering.write_taken.Goals as goal

pub returns : goal.returns
returns c =
    whole_text c.args.path.now c.args.source.now c.args.wish c.args.taken.now c.new-out.result.items c.put_comment.new.out.items
    c.in_ok-library.library.items c.as_slice.result.now c.extend_from_slice.new.self.items c.new-out.ensures.items
    c.in_ok-put_comment.ensures c.in_ok-library.ensures.text c.as_slice.ensures.value c.in_ok-extend_from_slice.ensures.items
