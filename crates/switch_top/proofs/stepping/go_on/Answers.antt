use Rattle.switch_top.proofs.stepping.go_on.Goals as goal

pub returns-in-Plain : goal.returns-in-Plain
returns-in-Plain g c = λ resync core inputs names start first before k takes. c.begin_next.ensures resync core inputs names start first (g.D.Desk.seen c.args.desk.now) before k takes

pub returns-in-Sync : goal.returns-in-Sync
returns-in-Sync g c = λ resync core inputs names start first before k takes. c.end_here.ensures resync core inputs names start first k before

pub returns-in-ReadFault : goal.returns-in-ReadFault
returns-in-ReadFault g c = λ resync core inputs names start first before k takes. c.end_here-in-ReadFault.ensures resync core inputs names start first k before

pub returns-in-TooLong : goal.returns-in-TooLong
returns-in-TooLong g c = λ resync core inputs names start first before k takes. c.end_here-in-TooLong.ensures resync core inputs names start first k before

pub returns-in-WriteFault : goal.returns-in-WriteFault
returns-in-WriteFault g c = λ resync core inputs names start first before k takes. c.end_here-in-WriteFault.ensures resync core inputs names start first k before
