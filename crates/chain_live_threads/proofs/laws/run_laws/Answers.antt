use Rattle.chain_live_threads.proofs.laws.run_laws.Goals as goal

pub returns : goal.returns
returns g c = record { machine = c.machine_laws.ensures; stages = c.one_stage.ensures; seats = c.seat_laws.ensures }
