use Rattle.std.proofs.Common.{rules, ◌≡◌, ◌++◌, decimal, IfOk, string_bytes, subst}
use Rattle.std.specs.Prelude.{codes}
use Rattle.std.specs.List.{AllByRecursion}
use Rattle.std.proofs.lemmas.Result.{IfOk-weaker}
use Rattle.cluster_identity.specs.IdentityTexts.{IsIdentity, IsMark}
use Rattle.cluster_identity.proofs.Written.{means_text}
use Rattle.cluster_identity.proofs.writing.identity_text.Goals as goal

pub returns-clause-text : goal.returns-clause-text
returns-clause-text c =
    let id = c.in_ok-id.id in
    let files = c.in_ok-files.files in
    let members = c.args.identity.now.members in
    let written : IfOk c.format.result
    (λ text. string_bytes text
    ≡ codes "{\"members\":" ++ (decimal members ++ (codes ",\"id\":\"" ++ (string_bytes id ++ (codes "\",\"files\":[" ++ (string_bytes files ++ codes "]}\n")))))) =
    search rules in
    rw (c.in_ok-id.ensures.digits, c.in_ok-files.ensures.text, c.deref.ensures.value) at written

pub returns-clause-means : goal.returns-clause-means
returns-clause-means c =
    let identity = c.args.identity.now in
    let marked : AllByRecursion IsMark identity.files.items = subst (AllByRecursion IsMark) c.deref.ensures.value c.in_ok-files.ensures.are_marks in
    let is : IsIdentity identity.members identity.id identity.files.items = record {
      three_or_five = identity.counted;
      named = c.in_ok-id.ensures.are_bytes;
      marked = marked;
      one_each = identity.one_each;
    } in
    IfOk-weaker c.format.result _ _ (means_text identity.members identity.id identity.files.items is) (returns-clause-text c)
