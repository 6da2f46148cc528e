use Rattle.std.proofs.Common.{◌≡◌, arith, length}
use Rattle.resumed_nodes.specs.Starting.{HasHeardAgain}
use Rattle.resumed_nodes.proofs.Each.{if_ok, each_given, as_many}
use Rattle.resumed_nodes.proofs.Restarted.{all_started, all_records}
use Rattle.resumed_nodes.proofs.hearing.hear_together.Goals as goal

pub returns-clause-heard : goal.returns-clause-heard
returns-clause-heard g c =
    let results = c.in_ok-map_vec.field-0.items in
    let nodes = c.args.nodes.items in
    let len : length results ≡ length nodes = omega (arith, c.in_ok-map_vec.ensures.len, c.in_ok-map_vec.field-0.ok.0, c.args.nodes.ok.0) in
    if_ok _ _ c.all_ok.result
    (λ v all. all_started c.args.config c.args.told.now nodes v.items c.requires.started (as_many results v.items (length nodes) all len)
    (each_given (HasHeardAgain c.args.config c.args.told.now) nodes results v.items all len
    (λ i e within. let it = (c.in_ok-map_vec.ensures.each i e within).1 in (it.job, it.job_is, it.call.met)))) c.all_ok.ensures

pub returns-clause-records : goal.returns-clause-records
returns-clause-records g c =
    let results = c.in_ok-map_vec.field-0.items in
    let nodes = c.args.nodes.items in
    let len : length results ≡ length nodes = omega (arith, c.in_ok-map_vec.ensures.len, c.in_ok-map_vec.field-0.ok.0, c.args.nodes.ok.0) in
    if_ok _ _ c.all_ok.result
    (λ v all. all_records c.args.config c.args.told.now nodes v.items c.requires.started (as_many results v.items (length nodes) all len)
    (each_given (HasHeardAgain c.args.config c.args.told.now) nodes results v.items all len
    (λ i e within. let it = (c.in_ok-map_vec.ensures.each i e within).1 in (it.job, it.job_is, it.call.met)))) c.all_ok.ensures

pub returns-clause-all : goal.returns-clause-all
returns-clause-all g c =
    let results = c.in_ok-map_vec.field-0.items in
    let nodes = c.args.nodes.items in
    let len : length results ≡ length nodes = omega (arith, c.in_ok-map_vec.ensures.len, c.in_ok-map_vec.field-0.ok.0, c.args.nodes.ok.0) in
    if_ok _ _ c.all_ok.result (λ v all. as_many results v.items (length nodes) all len) c.all_ok.ensures
