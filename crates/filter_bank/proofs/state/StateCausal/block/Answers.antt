use Rattle.filter_bank.proofs.state.StateCausal.block.Goals as goal

pub returns-in-Filter-clause-stands : goal.returns-in-Filter-clause-stands
returns-in-Filter-clause-stands c = rw c.in-Filter.is c.block.ensures.stands

pub returns-in-Filter-clause-value : goal.returns-in-Filter-clause-value
returns-in-Filter-clause-value c = rw c.in-Filter.is c.block.ensures.value

pub returns-in-Convolution-clause-value : goal.returns-in-Convolution-clause-value
returns-in-Convolution-clause-value c = rw c.in-Convolution.is c.block-in-Convolution.ensures.value

pub returns-in-Processor-clause-value : goal.returns-in-Processor-clause-value
returns-in-Processor-clause-value c = rw c.in-Processor.is c.block-in-Processor.ensures.value
