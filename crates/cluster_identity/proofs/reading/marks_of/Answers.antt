use Rattle.std.proofs.Common.{rules, ◌≡◌, ◌+◌, List, [], ◌∷◌, ◌++◌, None, Some, map, take, sym, subst, arith}
use Rattle.std.specs.List.{AllZip}
use Rattle.serde_json.specs.View.{view}
use Rattle.cluster_identity.specs.declared.file_mark.FileMark.{FileMark}
use Rattle.cluster_identity.specs.Identities.{TellsMark}
use Rattle.cluster_identity.proofs.Zipped.{zip_more, zipped_at}
use Rattle.cluster_identity.proofs.reading.marks_of.Goals as goal

pub loop-value-preserved : goal.loop-value-preserved
loop-value-preserved c =
    let pushed : c.push.new.self.items ≡ c.loop-value.marks.items ++ c.in-Some.mark ∷ [] = search rules in
    subst (λ (l : List FileMark). AllZip TellsMark (map view (take (c.loop-value.value-index + 1) c.args.values.now)) l) (sym pushed)
    (zip_more TellsMark view c.args.values.now c.loop-value.value-index c.value-item.result c.loop-value.marks.items c.in-Some.mark (omega arith) c.value-item.is c.loop-value.invariant c.in-Some.ensures.read)

pub returns-in-None : goal.returns-in-None
returns-in-None c = λ marks told.
    let here = zipped_at TellsMark view c.args.values.now marks c.loop-value.value-index c.value-item.result told (omega arith) c.value-item.is in
    let no : None ≡ Some here.0 = c.in-None.ensures.only here.0 here.1 in
    absurd cc
