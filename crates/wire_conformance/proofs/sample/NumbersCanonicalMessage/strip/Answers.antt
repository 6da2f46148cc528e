use Rattle.std.proofs.Common.{rules, None, w32, w64, FitsSigned, to_z-of_z}
use Rattle.proto_messages.proofs.CallerLemmas.{gave_up, then_stripped, not_stripped, last_stripped}
use Rattle.wire_conformance.proofs.sample.NumbersCanonicalMessage.strip.Goals as goal

pub returns-in_err-bytes-2 : goal.returns-in_err-bytes-2
returns-in_err-bytes-2 c =
    let fits_kind : FitsSigned w32 c.args.self.now.kind = search rules in
    let kind = rw (to_z-of_z fits_kind) at c.in_ok-bytes.ensures in
    let fits_change : FitsSigned w64 c.args.self.now.change = search rules in
    let change = rw (to_z-of_z fits_change) at c.in_err-bytes-2.ensures in
    gave_up _ _ c.from_residual-in_err-bytes-2.result c.from_residual-in_err-bytes-2.ensures
    (then_stripped c.args.bytes.now c.in_ok-bytes.bytes.now None _ _ kind
    (not_stripped c.in_ok-bytes.bytes.now _ _ change))

pub returns-in_err-bytes-3 : goal.returns-in_err-bytes-3
returns-in_err-bytes-3 c =
    let fits_kind : FitsSigned w32 c.args.self.now.kind = search rules in
    let kind = rw (to_z-of_z fits_kind) at c.in_ok-bytes.ensures in
    let fits_change : FitsSigned w64 c.args.self.now.change = search rules in
    let change = rw (to_z-of_z fits_change) at c.in_ok-bytes-2.ensures in
    gave_up _ _ c.from_residual-in_err-bytes-3.result c.from_residual-in_err-bytes-3.ensures
    (then_stripped c.args.bytes.now c.in_ok-bytes.bytes.now None _ _ kind
    (then_stripped c.in_ok-bytes.bytes.now c.in_ok-bytes-2.bytes.now None _ _ change
    (not_stripped c.in_ok-bytes-2.bytes.now _ _ c.in_err-bytes-3.ensures)))

pub returns : goal.returns
returns c =
    let fits_kind : FitsSigned w32 c.args.self.now.kind = search rules in
    let kind = rw (to_z-of_z fits_kind) at c.in_ok-bytes.ensures in
    let fits_change : FitsSigned w64 c.args.self.now.change = search rules in
    let change = rw (to_z-of_z fits_change) at c.in_ok-bytes-2.ensures in
    then_stripped c.args.bytes.now c.in_ok-bytes.bytes.now _ _ _ kind
    (then_stripped c.in_ok-bytes.bytes.now c.in_ok-bytes-2.bytes.now _ _ _ change
    (then_stripped c.in_ok-bytes-2.bytes.now c.in_ok-bytes-3.bytes.now _ _ _ c.in_ok-bytes-3.ensures
    (last_stripped c.in_ok-bytes-3.bytes.now _ _ c.strip_bool.ensures)))
