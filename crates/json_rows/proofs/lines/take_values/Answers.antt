use Rattle.std.proofs.Common.{rules, arith, sym, ap, subst, ◌∙◌, ◌≡◌, ◌+◌, ℕ, List, [], ◌∷◌, ◌++◌, map, length, append_assoc}
use Rattle.std.specs.List.{AllZip}
use Rattle.std.proofs.lemmas.List.{length_push}
use Rattle.serde_json.specs.Data.{Data}
use Rattle.serde_json.specs.View.{view}
use Rattle.serde_json.specs.declared.value.Value.{Value}
use Rattle.json_rows.specs.declared.fault.JsonFault.TheVariants.{OutOfMemory}
use Rattle.json_rows.specs.Lines.{TellsLine, lines_of}
use Rattle.json_rows.proofs.Cut.{zip_middle, zip_joined}
use Rattle.json_rows.proofs.Zipped.{told_on, mapped_push}
use Rattle.json_rows.proofs.lines.take_values.Goals as goal

pub returns-in_err-value-clause-refused : goal.returns-in_err-value-clause-refused
returns-in_err-value-clause-refused c = λ values told.
    let before = c.loop-alloc.invariant.0 in
    let whole : lines_of c.args.text.now ≡ before.0 ++ c.cut_line.result.0.now ∷ lines_of c.cut_line.result.1.now =
    before.1 ∙ ap (λ (l : List (List ℕ)). before.0 ++ l) c.cut_line.ensures.lines in
    let here = zip_middle TellsLine before.0 c.cut_line.result.0.now (lines_of c.cut_line.result.1.now) values (subst (λ (l : List (List ℕ)). AllZip TellsLine l values) whole told) in
    told_on c.from_residual.result c.in_err-value.field-0.0 OutOfMemory c.from_residual.ensures.1 (c.in_err-value.ensures.refused here.0 here.1)

pub loop-alloc-preserved : goal.loop-alloc-preserved
loop-alloc-preserved c =
    let before = c.loop-alloc.invariant.0 in
    let line = c.cut_line.result.0.now in
    let rest = lines_of c.cut_line.result.1.now in
    let items : List Value = c.loop-alloc.values.items in
    let value : Value = c.in_ok-value.value in
    let pushed : c.push.new.self.items ≡ items ++ value ∷ [] = search rules in
    let long : length c.push.new.self.items ≡ length items + 1 = ap (λ (l : List Value). length l) pushed ∙ length_push items value in (
      (
        before.0 ++ line ∷ [],
        before.1 ∙ ap (λ (l : List (List ℕ)). before.0 ++ l) c.cut_line.ensures.lines ∙ sym (append_assoc before.0 (line ∷ []) rest),
        subst (λ (ds : List Data). AllZip TellsLine (before.0 ++ line ∷ []) ds) (sym (ap (map view) pushed ∙ mapped_push view items value))
            (zip_joined TellsLine before.0 (line ∷ []) (map view items) (view value ∷ []) before.2 (c.in_ok-value.ensures.read, tt)),
      ),
      omega (arith, long, c.loop-alloc-test.true, c.len.ensures, c.loop-alloc.values.ok.0),
      omega (arith, long, c.loop-alloc.invariant.2, c.cut_line.ensures.shorter),
    )
