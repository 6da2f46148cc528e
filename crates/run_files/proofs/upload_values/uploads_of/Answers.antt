use Rattle.std.proofs.Common.{rules, sym, subst, ◌+◌, ℕ, List, ◌∷◌, [], ◌++◌, ◌≡◌, ◌∙◌, map, take}
use Rattle.std.specs.List.{AllZip}
use Rattle.std.proofs.lemmas.List.{take_all}
use Rattle.serde_json.specs.View.{view}
use Rattle.serde_json.specs.declared.value.Value.{Value}
use Rattle.run_files.specs.UploadValue.{MeansUpload}
use Rattle.run_files.specs.declared.fault.ValueFault.TheVariants.{Unfit, OutOfMemory}
use Rattle.run_files.proofs.Zipped.{zip_more}
use Rattle.run_files.proofs.Reading.{first_unfit}
use Rattle.run_files.proofs.upload_values.uploads_of.Goals as goal

pub loop-place-preserved : goal.loop-place-preserved
loop-place-preserved c =
    let pushed : c.push.new.self.items ≡ c.loop-place.uploads.items ++ c.in-Ok.upload ∷ [] = search rules in
    subst (λ (l : List (List ℕ)). AllZip MeansUpload (map view (take (c.loop-place.place + 1) c.args.values.now)) l) (sym pushed)
    (zip_more MeansUpload view c.args.values.now c.loop-place.place c.index-values-place.result c.loop-place.uploads.items c.in-Ok.upload c.loop-place-test.true c.index-values-place.is c.loop-place.invariant c.in-Ok.ensures.read)

pub returns-in-Err-Unfit : goal.returns-in-Err-Unfit
returns-in-Err-Unfit c =
    first_unfit MeansUpload view c.args.values.now c.loop-place.place c.index-values-place.result c.loop-place.uploads.items c.loop-place-test.true c.index-values-place.is c.loop-place.invariant
    (λ upload told. let e : Unfit ≡ OutOfMemory = sym c.in-Err-Unfit.field-0-is ∙ c.in-Err-Unfit.ensures.refused upload told in absurd cc)

pub returns : goal.returns
returns c =
    subst (λ (vs : List Value). AllZip MeansUpload (map view vs) c.loop-place.uploads.items) (take_all c.loop-place.place c.args.values.now c.loop-place-test.false) c.loop-place.invariant
