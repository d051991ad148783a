-- The texts of the tables of MESI and of MOESI, as a person writes them, stalling and deferring.
use Rattle.std.specs.Prelude.{ℕ, List, [], ◌∷◌, codes}
use Rattle.pg_print.specs.Worked.{text_of_lines}

abbrev pub mesi_stall_text : List ℕ
mesi_stall_text = text_of_lines (
    codes "table MESI stall" ∷
    codes "state I" ∷
    codes "state S" ∷
    codes "state E" ∷
    codes "state M" ∷
    codes "state IS_D" ∷
    codes "state IM_AD" ∷
    codes "state IM_A" ∷
    codes "state SM_AD" ∷
    codes "state SM_A" ∷
    codes "state SI_A" ∷
    codes "state EI_A" ∷
    codes "state MI_A" ∷
    codes "state II_A" ∷
    codes "on I load send GetS -> IS_D" ∷
    codes "on I store send GetM -> IM_AD" ∷
    codes "on I evict skip -> I" ∷
    codes "on S load hit -> S" ∷
    codes "on S store send GetM -> SM_AD" ∷
    codes "on S evict send PutS -> SI_A" ∷
    codes "on S Inv ack -> I" ∷
    codes "on E load hit -> E" ∷
    codes "on E store hit -> M" ∷
    codes "on E evict send PutE -> EI_A" ∷
    codes "on E FwdGetS give Data wb -> S" ∷
    codes "on E FwdGetM give Data -> I" ∷
    codes "on M load hit -> M" ∷
    codes "on M store hit -> M" ∷
    codes "on M evict send PutM -> MI_A" ∷
    codes "on M FwdGetS give Data wb -> S" ∷
    codes "on M FwdGetM give Data -> I" ∷
    codes "on IS_D Inv stall -> IS_D" ∷
    codes "on IS_D FwdGetS stall -> IS_D" ∷
    codes "on IS_D FwdGetM stall -> IS_D" ∷
    codes "on IS_D Data.all fill done -> S" ∷
    codes "on IS_D DataE.all fill done -> E" ∷
    codes "on IM_AD FwdGetS stall -> IM_AD" ∷
    codes "on IM_AD FwdGetM stall -> IM_AD" ∷
    codes "on IM_AD Data.all fill done -> M" ∷
    codes "on IM_AD Data.part fill need -> IM_A" ∷
    codes "on IM_AD InvAck.more count -> IM_AD" ∷
    codes "on IM_A FwdGetS stall -> IM_A" ∷
    codes "on IM_A FwdGetM stall -> IM_A" ∷
    codes "on IM_A InvAck.more count -> IM_A" ∷
    codes "on IM_A InvAck.last count done -> M" ∷
    codes "on SM_AD Inv ack -> IM_AD" ∷
    codes "on SM_AD FwdGetS stall -> SM_AD" ∷
    codes "on SM_AD FwdGetM stall -> SM_AD" ∷
    codes "on SM_AD Data.all fill done -> M" ∷
    codes "on SM_AD Data.part fill need -> SM_A" ∷
    codes "on SM_AD InvAck.more count -> SM_AD" ∷
    codes "on SM_A FwdGetS stall -> SM_A" ∷
    codes "on SM_A FwdGetM stall -> SM_A" ∷
    codes "on SM_A InvAck.more count -> SM_A" ∷
    codes "on SM_A InvAck.last count done -> M" ∷
    codes "on SI_A Inv ack -> II_A" ∷
    codes "on SI_A PutAck done -> I" ∷
    codes "on EI_A FwdGetS give Data wb -> SI_A" ∷
    codes "on EI_A FwdGetM give Data -> II_A" ∷
    codes "on EI_A PutAck done -> I" ∷
    codes "on MI_A FwdGetS give Data wb -> SI_A" ∷
    codes "on MI_A FwdGetM give Data -> II_A" ∷
    codes "on MI_A PutAck done -> I" ∷
    codes "on II_A PutAck done -> I" ∷
    codes "home I" ∷
    codes "home S" ∷
    codes "home M" ∷
    codes "home S_D" ∷
    codes "at I GetS.other reply DataE -> M" ∷
    codes "at I GetM.other reply Data -> M" ∷
    codes "at I evict.none putack -> I" ∷
    codes "at S GetS.other reply Data -> S" ∷
    codes "at S GetM.other inv reply Data -> M" ∷
    codes "at S GetM.sharer inv reply Data -> M" ∷
    codes "at S evict.sharer.last putack -> I" ∷
    codes "at S evict.sharer.more putack -> S" ∷
    codes "at S evict.none putack -> S" ∷
    codes "at M GetS.other forward FwdGetS -> S_D" ∷
    codes "at M GetM.other forward FwdGetM -> M" ∷
    codes "at M evict.owner.last write putack -> I" ∷
    codes "at M evict.none putack -> M" ∷
    codes "at S_D GetS stall -> S_D" ∷
    codes "at S_D GetM stall -> S_D" ∷
    codes "at S_D evict stall -> S_D" ∷
    codes "at S_D WbData write -> S" ∷
    codes "end" ∷
    [])

abbrev pub mesi_defer_text : List ℕ
mesi_defer_text = text_of_lines (
    codes "table MESI defer" ∷
    codes "state I" ∷
    codes "state S" ∷
    codes "state E" ∷
    codes "state M" ∷
    codes "state IS_D" ∷
    codes "state IS_D_gave" ∷
    codes "state IS_D_gone" ∷
    codes "state IM_AD" ∷
    codes "state IM_AD_gave" ∷
    codes "state IM_AD_gone" ∷
    codes "state IM_A" ∷
    codes "state IM_A_gave" ∷
    codes "state IM_A_gone" ∷
    codes "state SM_AD" ∷
    codes "state SM_AD_gave" ∷
    codes "state SM_AD_gone" ∷
    codes "state SM_A" ∷
    codes "state SM_A_gave" ∷
    codes "state SM_A_gone" ∷
    codes "state SI_A" ∷
    codes "state EI_A" ∷
    codes "state MI_A" ∷
    codes "state II_A" ∷
    codes "on I load send GetS -> IS_D" ∷
    codes "on I store send GetM -> IM_AD" ∷
    codes "on I evict skip -> I" ∷
    codes "on S load hit -> S" ∷
    codes "on S store send GetM -> SM_AD" ∷
    codes "on S evict send PutS -> SI_A" ∷
    codes "on S Inv ack -> I" ∷
    codes "on E load hit -> E" ∷
    codes "on E store hit -> M" ∷
    codes "on E evict send PutE -> EI_A" ∷
    codes "on E FwdGetS give Data wb -> S" ∷
    codes "on E FwdGetM give Data -> I" ∷
    codes "on M load hit -> M" ∷
    codes "on M store hit -> M" ∷
    codes "on M evict send PutM -> MI_A" ∷
    codes "on M FwdGetS give Data wb -> S" ∷
    codes "on M FwdGetM give Data -> I" ∷
    codes "on IS_D Inv ack -> IS_D_gone" ∷
    codes "on IS_D FwdGetS defer -> IS_D_gave" ∷
    codes "on IS_D FwdGetM defer -> IS_D_gone" ∷
    codes "on IS_D Data.all fill done -> S" ∷
    codes "on IS_D DataE.all fill done -> E" ∷
    codes "on IS_D_gave DataE.all fill done serve -> S" ∷
    codes "on IS_D_gone Data.all fill done serve -> I" ∷
    codes "on IS_D_gone DataE.all fill done serve -> I" ∷
    codes "on IM_AD FwdGetS defer -> IM_AD_gave" ∷
    codes "on IM_AD FwdGetM defer -> IM_AD_gone" ∷
    codes "on IM_AD Data.all fill done -> M" ∷
    codes "on IM_AD Data.part fill need -> IM_A" ∷
    codes "on IM_AD InvAck.more count -> IM_AD" ∷
    codes "on IM_AD_gave Data.all fill done serve -> S" ∷
    codes "on IM_AD_gave Data.part fill need -> IM_A_gave" ∷
    codes "on IM_AD_gave InvAck.more count -> IM_AD_gave" ∷
    codes "on IM_AD_gone Data.all fill done serve -> I" ∷
    codes "on IM_AD_gone Data.part fill need -> IM_A_gone" ∷
    codes "on IM_AD_gone InvAck.more count -> IM_AD_gone" ∷
    codes "on IM_A FwdGetS defer -> IM_A_gave" ∷
    codes "on IM_A FwdGetM defer -> IM_A_gone" ∷
    codes "on IM_A InvAck.more count -> IM_A" ∷
    codes "on IM_A InvAck.last count done -> M" ∷
    codes "on IM_A_gave InvAck.more count -> IM_A_gave" ∷
    codes "on IM_A_gave InvAck.last count done serve -> S" ∷
    codes "on IM_A_gone InvAck.more count -> IM_A_gone" ∷
    codes "on IM_A_gone InvAck.last count done serve -> I" ∷
    codes "on SM_AD Inv ack -> IM_AD" ∷
    codes "on SM_AD FwdGetS defer -> SM_AD_gave" ∷
    codes "on SM_AD FwdGetM defer -> SM_AD_gone" ∷
    codes "on SM_AD Data.all fill done -> M" ∷
    codes "on SM_AD Data.part fill need -> SM_A" ∷
    codes "on SM_AD InvAck.more count -> SM_AD" ∷
    codes "on SM_AD_gave Data.all fill done serve -> S" ∷
    codes "on SM_AD_gave Data.part fill need -> SM_A_gave" ∷
    codes "on SM_AD_gave InvAck.more count -> SM_AD_gave" ∷
    codes "on SM_AD_gone Data.all fill done serve -> I" ∷
    codes "on SM_AD_gone Data.part fill need -> SM_A_gone" ∷
    codes "on SM_AD_gone InvAck.more count -> SM_AD_gone" ∷
    codes "on SM_A FwdGetS defer -> SM_A_gave" ∷
    codes "on SM_A FwdGetM defer -> SM_A_gone" ∷
    codes "on SM_A InvAck.more count -> SM_A" ∷
    codes "on SM_A InvAck.last count done -> M" ∷
    codes "on SM_A_gave InvAck.more count -> SM_A_gave" ∷
    codes "on SM_A_gave InvAck.last count done serve -> S" ∷
    codes "on SM_A_gone InvAck.more count -> SM_A_gone" ∷
    codes "on SM_A_gone InvAck.last count done serve -> I" ∷
    codes "on SI_A Inv ack -> II_A" ∷
    codes "on SI_A PutAck done -> I" ∷
    codes "on EI_A FwdGetS give Data wb -> SI_A" ∷
    codes "on EI_A FwdGetM give Data -> II_A" ∷
    codes "on EI_A PutAck done -> I" ∷
    codes "on MI_A FwdGetS give Data wb -> SI_A" ∷
    codes "on MI_A FwdGetM give Data -> II_A" ∷
    codes "on MI_A PutAck done -> I" ∷
    codes "on II_A PutAck done -> I" ∷
    codes "home I" ∷
    codes "home S" ∷
    codes "home M" ∷
    codes "home S_D" ∷
    codes "at I GetS.other reply DataE -> M" ∷
    codes "at I GetM.other reply Data -> M" ∷
    codes "at I evict.none putack -> I" ∷
    codes "at S GetS.other reply Data -> S" ∷
    codes "at S GetM.other inv reply Data -> M" ∷
    codes "at S GetM.sharer inv reply Data -> M" ∷
    codes "at S evict.sharer.last putack -> I" ∷
    codes "at S evict.sharer.more putack -> S" ∷
    codes "at S evict.none putack -> S" ∷
    codes "at M GetS.other forward FwdGetS -> S_D" ∷
    codes "at M GetM.other forward FwdGetM -> M" ∷
    codes "at M evict.owner.last write putack -> I" ∷
    codes "at M evict.none putack -> M" ∷
    codes "at S_D GetS stall -> S_D" ∷
    codes "at S_D GetM stall -> S_D" ∷
    codes "at S_D evict stall -> S_D" ∷
    codes "at S_D WbData write -> S" ∷
    codes "end" ∷
    [])

abbrev pub moesi_stall_text : List ℕ
moesi_stall_text = text_of_lines (
    codes "table MOESI stall" ∷
    codes "state I" ∷
    codes "state S" ∷
    codes "state O" ∷
    codes "state E" ∷
    codes "state M" ∷
    codes "state IS_D" ∷
    codes "state IM_AD" ∷
    codes "state IM_A" ∷
    codes "state SM_AD" ∷
    codes "state SM_A" ∷
    codes "state OM_AC" ∷
    codes "state OM_A" ∷
    codes "state SI_A" ∷
    codes "state OI_A" ∷
    codes "state EI_A" ∷
    codes "state MI_A" ∷
    codes "state II_A" ∷
    codes "on I load send GetS -> IS_D" ∷
    codes "on I store send GetM -> IM_AD" ∷
    codes "on I evict skip -> I" ∷
    codes "on S load hit -> S" ∷
    codes "on S store send GetM -> SM_AD" ∷
    codes "on S evict send PutS -> SI_A" ∷
    codes "on S Inv ack -> I" ∷
    codes "on O load hit -> O" ∷
    codes "on O store send GetM -> OM_AC" ∷
    codes "on O evict send PutO -> OI_A" ∷
    codes "on O FwdGetS give Data -> O" ∷
    codes "on O FwdGetM give Data -> I" ∷
    codes "on E load hit -> E" ∷
    codes "on E store hit -> M" ∷
    codes "on E evict send PutE -> EI_A" ∷
    codes "on E FwdGetS give Data -> O" ∷
    codes "on E FwdGetM give Data -> I" ∷
    codes "on M load hit -> M" ∷
    codes "on M store hit -> M" ∷
    codes "on M evict send PutM -> MI_A" ∷
    codes "on M FwdGetS give Data -> O" ∷
    codes "on M FwdGetM give Data -> I" ∷
    codes "on IS_D Inv stall -> IS_D" ∷
    codes "on IS_D FwdGetS stall -> IS_D" ∷
    codes "on IS_D FwdGetM stall -> IS_D" ∷
    codes "on IS_D Data.all fill done -> S" ∷
    codes "on IS_D DataE.all fill done -> E" ∷
    codes "on IM_AD FwdGetS stall -> IM_AD" ∷
    codes "on IM_AD FwdGetM stall -> IM_AD" ∷
    codes "on IM_AD Data.all fill done -> M" ∷
    codes "on IM_AD Data.part fill need -> IM_A" ∷
    codes "on IM_AD InvAck.more count -> IM_AD" ∷
    codes "on IM_A FwdGetS stall -> IM_A" ∷
    codes "on IM_A FwdGetM stall -> IM_A" ∷
    codes "on IM_A InvAck.more count -> IM_A" ∷
    codes "on IM_A InvAck.last count done -> M" ∷
    codes "on SM_AD Inv ack -> IM_AD" ∷
    codes "on SM_AD FwdGetS stall -> SM_AD" ∷
    codes "on SM_AD FwdGetM stall -> SM_AD" ∷
    codes "on SM_AD Data.all fill done -> M" ∷
    codes "on SM_AD Data.part fill need -> SM_A" ∷
    codes "on SM_AD InvAck.more count -> SM_AD" ∷
    codes "on SM_A FwdGetS stall -> SM_A" ∷
    codes "on SM_A FwdGetM stall -> SM_A" ∷
    codes "on SM_A InvAck.more count -> SM_A" ∷
    codes "on SM_A InvAck.last count done -> M" ∷
    codes "on OM_AC FwdGetS give Data -> OM_AC" ∷
    codes "on OM_AC FwdGetM give Data -> IM_AD" ∷
    codes "on OM_AC AckCount.all done -> M" ∷
    codes "on OM_AC AckCount.part need -> OM_A" ∷
    codes "on OM_AC InvAck.more count -> OM_AC" ∷
    codes "on OM_A FwdGetS stall -> OM_A" ∷
    codes "on OM_A FwdGetM stall -> OM_A" ∷
    codes "on OM_A InvAck.more count -> OM_A" ∷
    codes "on OM_A InvAck.last count done -> M" ∷
    codes "on SI_A Inv ack -> II_A" ∷
    codes "on SI_A PutAck done -> I" ∷
    codes "on OI_A FwdGetS give Data -> OI_A" ∷
    codes "on OI_A FwdGetM give Data -> II_A" ∷
    codes "on OI_A PutAck done -> I" ∷
    codes "on EI_A FwdGetS give Data -> OI_A" ∷
    codes "on EI_A FwdGetM give Data -> II_A" ∷
    codes "on EI_A PutAck done -> I" ∷
    codes "on MI_A FwdGetS give Data -> OI_A" ∷
    codes "on MI_A FwdGetM give Data -> II_A" ∷
    codes "on MI_A PutAck done -> I" ∷
    codes "on II_A PutAck done -> I" ∷
    codes "home I" ∷
    codes "home S" ∷
    codes "home O" ∷
    codes "home M" ∷
    codes "at I GetS.other reply DataE -> M" ∷
    codes "at I GetM.other reply Data -> M" ∷
    codes "at I evict.none putack -> I" ∷
    codes "at S GetS.other reply Data -> S" ∷
    codes "at S GetM.other inv reply Data -> M" ∷
    codes "at S GetM.sharer inv reply Data -> M" ∷
    codes "at S evict.sharer.last putack -> I" ∷
    codes "at S evict.sharer.more putack -> S" ∷
    codes "at S evict.none putack -> S" ∷
    codes "at O GetS.other forward FwdGetS -> O" ∷
    codes "at O GetM.other inv forward FwdGetM -> M" ∷
    codes "at O GetM.sharer inv forward FwdGetM -> M" ∷
    codes "at O GetM.owner inv ackcount -> M" ∷
    codes "at O evict.owner.last write putack -> I" ∷
    codes "at O evict.owner.more write putack -> S" ∷
    codes "at O evict.sharer.last putack -> O" ∷
    codes "at O evict.sharer.more putack -> O" ∷
    codes "at O evict.none putack -> O" ∷
    codes "at M GetS.other forward FwdGetS -> O" ∷
    codes "at M GetM.other forward FwdGetM -> M" ∷
    codes "at M evict.owner.last write putack -> I" ∷
    codes "at M evict.none putack -> M" ∷
    codes "end" ∷
    [])

abbrev pub moesi_defer_text : List ℕ
moesi_defer_text = text_of_lines (
    codes "table MOESI defer" ∷
    codes "state I" ∷
    codes "state S" ∷
    codes "state O" ∷
    codes "state E" ∷
    codes "state M" ∷
    codes "state IS_D" ∷
    codes "state IS_D_kept" ∷
    codes "state IS_D_gone" ∷
    codes "state IM_AD" ∷
    codes "state IM_AD_kept" ∷
    codes "state IM_AD_gone" ∷
    codes "state IM_A" ∷
    codes "state IM_A_kept" ∷
    codes "state IM_A_gone" ∷
    codes "state SM_AD" ∷
    codes "state SM_AD_kept" ∷
    codes "state SM_AD_gone" ∷
    codes "state SM_A" ∷
    codes "state SM_A_kept" ∷
    codes "state SM_A_gone" ∷
    codes "state OM_AC" ∷
    codes "state OM_A" ∷
    codes "state OM_A_kept" ∷
    codes "state OM_A_gone" ∷
    codes "state SI_A" ∷
    codes "state OI_A" ∷
    codes "state EI_A" ∷
    codes "state MI_A" ∷
    codes "state II_A" ∷
    codes "on I load send GetS -> IS_D" ∷
    codes "on I store send GetM -> IM_AD" ∷
    codes "on I evict skip -> I" ∷
    codes "on S load hit -> S" ∷
    codes "on S store send GetM -> SM_AD" ∷
    codes "on S evict send PutS -> SI_A" ∷
    codes "on S Inv ack -> I" ∷
    codes "on O load hit -> O" ∷
    codes "on O store send GetM -> OM_AC" ∷
    codes "on O evict send PutO -> OI_A" ∷
    codes "on O FwdGetS give Data -> O" ∷
    codes "on O FwdGetM give Data -> I" ∷
    codes "on E load hit -> E" ∷
    codes "on E store hit -> M" ∷
    codes "on E evict send PutE -> EI_A" ∷
    codes "on E FwdGetS give Data -> O" ∷
    codes "on E FwdGetM give Data -> I" ∷
    codes "on M load hit -> M" ∷
    codes "on M store hit -> M" ∷
    codes "on M evict send PutM -> MI_A" ∷
    codes "on M FwdGetS give Data -> O" ∷
    codes "on M FwdGetM give Data -> I" ∷
    codes "on IS_D Inv ack -> IS_D_gone" ∷
    codes "on IS_D FwdGetS defer -> IS_D_kept" ∷
    codes "on IS_D FwdGetM defer -> IS_D_gone" ∷
    codes "on IS_D Data.all fill done -> S" ∷
    codes "on IS_D DataE.all fill done -> E" ∷
    codes "on IS_D_kept FwdGetS defer -> IS_D_kept" ∷
    codes "on IS_D_kept FwdGetM defer -> IS_D_gone" ∷
    codes "on IS_D_kept DataE.all fill done serve -> O" ∷
    codes "on IS_D_gone Data.all fill done serve -> I" ∷
    codes "on IS_D_gone DataE.all fill done serve -> I" ∷
    codes "on IM_AD FwdGetS defer -> IM_AD_kept" ∷
    codes "on IM_AD FwdGetM defer -> IM_AD_gone" ∷
    codes "on IM_AD Data.all fill done -> M" ∷
    codes "on IM_AD Data.part fill need -> IM_A" ∷
    codes "on IM_AD InvAck.more count -> IM_AD" ∷
    codes "on IM_AD_kept FwdGetS defer -> IM_AD_kept" ∷
    codes "on IM_AD_kept FwdGetM defer -> IM_AD_gone" ∷
    codes "on IM_AD_kept Data.all fill done serve -> O" ∷
    codes "on IM_AD_kept Data.part fill need -> IM_A_kept" ∷
    codes "on IM_AD_kept InvAck.more count -> IM_AD_kept" ∷
    codes "on IM_AD_gone Data.all fill done serve -> I" ∷
    codes "on IM_AD_gone Data.part fill need -> IM_A_gone" ∷
    codes "on IM_AD_gone InvAck.more count -> IM_AD_gone" ∷
    codes "on IM_A FwdGetS defer -> IM_A_kept" ∷
    codes "on IM_A FwdGetM defer -> IM_A_gone" ∷
    codes "on IM_A InvAck.more count -> IM_A" ∷
    codes "on IM_A InvAck.last count done -> M" ∷
    codes "on IM_A_kept FwdGetS defer -> IM_A_kept" ∷
    codes "on IM_A_kept FwdGetM defer -> IM_A_gone" ∷
    codes "on IM_A_kept InvAck.more count -> IM_A_kept" ∷
    codes "on IM_A_kept InvAck.last count done serve -> O" ∷
    codes "on IM_A_gone InvAck.more count -> IM_A_gone" ∷
    codes "on IM_A_gone InvAck.last count done serve -> I" ∷
    codes "on SM_AD Inv ack -> IM_AD" ∷
    codes "on SM_AD FwdGetS defer -> SM_AD_kept" ∷
    codes "on SM_AD FwdGetM defer -> SM_AD_gone" ∷
    codes "on SM_AD Data.all fill done -> M" ∷
    codes "on SM_AD Data.part fill need -> SM_A" ∷
    codes "on SM_AD InvAck.more count -> SM_AD" ∷
    codes "on SM_AD_kept FwdGetS defer -> SM_AD_kept" ∷
    codes "on SM_AD_kept FwdGetM defer -> SM_AD_gone" ∷
    codes "on SM_AD_kept Data.all fill done serve -> O" ∷
    codes "on SM_AD_kept Data.part fill need -> SM_A_kept" ∷
    codes "on SM_AD_kept InvAck.more count -> SM_AD_kept" ∷
    codes "on SM_AD_gone Data.all fill done serve -> I" ∷
    codes "on SM_AD_gone Data.part fill need -> SM_A_gone" ∷
    codes "on SM_AD_gone InvAck.more count -> SM_AD_gone" ∷
    codes "on SM_A FwdGetS defer -> SM_A_kept" ∷
    codes "on SM_A FwdGetM defer -> SM_A_gone" ∷
    codes "on SM_A InvAck.more count -> SM_A" ∷
    codes "on SM_A InvAck.last count done -> M" ∷
    codes "on SM_A_kept FwdGetS defer -> SM_A_kept" ∷
    codes "on SM_A_kept FwdGetM defer -> SM_A_gone" ∷
    codes "on SM_A_kept InvAck.more count -> SM_A_kept" ∷
    codes "on SM_A_kept InvAck.last count done serve -> O" ∷
    codes "on SM_A_gone InvAck.more count -> SM_A_gone" ∷
    codes "on SM_A_gone InvAck.last count done serve -> I" ∷
    codes "on OM_AC FwdGetS give Data -> OM_AC" ∷
    codes "on OM_AC FwdGetM give Data -> IM_AD" ∷
    codes "on OM_AC AckCount.all done -> M" ∷
    codes "on OM_AC AckCount.part need -> OM_A" ∷
    codes "on OM_AC InvAck.more count -> OM_AC" ∷
    codes "on OM_A FwdGetS defer -> OM_A_kept" ∷
    codes "on OM_A FwdGetM defer -> OM_A_gone" ∷
    codes "on OM_A InvAck.more count -> OM_A" ∷
    codes "on OM_A InvAck.last count done -> M" ∷
    codes "on OM_A_kept FwdGetS defer -> OM_A_kept" ∷
    codes "on OM_A_kept FwdGetM defer -> OM_A_gone" ∷
    codes "on OM_A_kept InvAck.more count -> OM_A_kept" ∷
    codes "on OM_A_kept InvAck.last count done serve -> O" ∷
    codes "on OM_A_gone InvAck.more count -> OM_A_gone" ∷
    codes "on OM_A_gone InvAck.last count done serve -> I" ∷
    codes "on SI_A Inv ack -> II_A" ∷
    codes "on SI_A PutAck done -> I" ∷
    codes "on OI_A FwdGetS give Data -> OI_A" ∷
    codes "on OI_A FwdGetM give Data -> II_A" ∷
    codes "on OI_A PutAck done -> I" ∷
    codes "on EI_A FwdGetS give Data -> OI_A" ∷
    codes "on EI_A FwdGetM give Data -> II_A" ∷
    codes "on EI_A PutAck done -> I" ∷
    codes "on MI_A FwdGetS give Data -> OI_A" ∷
    codes "on MI_A FwdGetM give Data -> II_A" ∷
    codes "on MI_A PutAck done -> I" ∷
    codes "on II_A PutAck done -> I" ∷
    codes "home I" ∷
    codes "home S" ∷
    codes "home O" ∷
    codes "home M" ∷
    codes "at I GetS.other reply DataE -> M" ∷
    codes "at I GetM.other reply Data -> M" ∷
    codes "at I evict.none putack -> I" ∷
    codes "at S GetS.other reply Data -> S" ∷
    codes "at S GetM.other inv reply Data -> M" ∷
    codes "at S GetM.sharer inv reply Data -> M" ∷
    codes "at S evict.sharer.last putack -> I" ∷
    codes "at S evict.sharer.more putack -> S" ∷
    codes "at S evict.none putack -> S" ∷
    codes "at O GetS.other forward FwdGetS -> O" ∷
    codes "at O GetM.other inv forward FwdGetM -> M" ∷
    codes "at O GetM.sharer inv forward FwdGetM -> M" ∷
    codes "at O GetM.owner inv ackcount -> M" ∷
    codes "at O evict.owner.last write putack -> I" ∷
    codes "at O evict.owner.more write putack -> S" ∷
    codes "at O evict.sharer.last putack -> O" ∷
    codes "at O evict.sharer.more putack -> O" ∷
    codes "at O evict.none putack -> O" ∷
    codes "at M GetS.other forward FwdGetS -> O" ∷
    codes "at M GetM.other forward FwdGetM -> M" ∷
    codes "at M evict.owner.last write putack -> I" ∷
    codes "at M evict.none putack -> M" ∷
    codes "end" ∷
    [])
