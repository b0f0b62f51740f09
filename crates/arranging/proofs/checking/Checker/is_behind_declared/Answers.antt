use Rattle.std.proofs.Common.{take, sym, subst, inr, rules}
use Rattle.std.specs.Prelude.{IsTrue, Contains}
use Rattle.std.proofs.lemmas.List.{take-append-drop}
use Rattle.source.specs.Scopes.{is_in}
use Rattle.arranging.specs.Sections.{mentioned}
use Rattle.arranging.proofs.checking.Checker.is_behind_declared.Goals as goal

pub returns : goal.returns
returns c = λ e source old known all holds.
    let coming = c.args.coming in
    let word = c.args.word.now in
    let beside = c.in-Some.beside.now in
    let at = c.in-Some.ensures.lookup.3 in
    let s = c.is_section_behind.ensures e source old known c.if-not-is_section_behind.false in record {
      front = take c.args.item old;
      item = s.0;
      section = s.1;
      whole = s.3;
      same = s.4;
      why = inr (record {
        word = word;
        declares = c.declares.ensures e source old known c.if-not-declares.false s.0 s.2;
        no_end = search rules;
        beside = beside;
        comes = subst (λ cs. Contains cs beside) (sym all) (c.args.number, at.0, sym (at.1 beside));
        same = search rules;
        mentions =
            subst (λ xs. IsTrue (is_in (mentioned xs beside) word)) (sym (take-append-drop coming.place old))
            (c.mentions.ensures e source old known holds);
      });
    }
