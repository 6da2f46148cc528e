use Rattle.std.proofs.Common.{length, sym, ◌∙◌, ap}
use Rattle.ghost_log.proofs.Adding.{adds_moves}
use Rattle.ghost_log.proofs.head.Head.append.Goals as goal

pub compare_exchange-found-requires : goal.compare_exchange-found-requires
compare_exchange-found-requires g c =
    let head = c.args.self.now.word_is in
    let seen = c.again-seen.ensures in
    let offer = c.plain-offer.ensures in
    let pen = c.no_pen-pen.ensures in
    let book = ap (λ s. s.book) seen ∙ (c.reached.invariant.1 ∙ sym (ap (λ w. w.book) head)) in (
      ap (λ w. w.tracked) head,
      book,
      pen.0 ∙ book,
      offer.0,
      rw (ap (λ w. w.key) head, pen.1, offer.1, offer.3) (adds_moves c.again-seen.result.log c.args.entry.now c.reached.inside.count (ap (λ s. length s.log) seen ∙ sym c.reached.invariant.0)),
    )
